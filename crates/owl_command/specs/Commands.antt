-- What the words of the command line ask for.
use Rattle.std.specs.Prelude.{◌≡◌, ◌≢◌, ◌<◌, ◌≤◌, ◌⊎◌, ℕ, Bool, false, true, Option, None, Some, IfSome, List, [], ◌∷◌, ◌++◌, length, map, codes}
use Rattle.std.specs.Fmt.{decimal}
use Rattle.std.specs.List.{AllByRecursion}
use Rattle.std.specs.Str.{all_scalars, encode_utf8_all}
use Rattle.owl_characters.specs.Iri.{IsIri}
use Rattle.owl_command.specs.declared.command.Layout.{Layout}
use Rattle.owl_command.specs.declared.command.Layout.TheVariants.{Flat, Nested}
use Rattle.owl_command.specs.declared.command.Target.{Target}
use Rattle.owl_command.specs.declared.command.Target.TheVariants.{Fss, Ttl, Omn}
use Rattle.owl_command.specs.declared.command.Profile.{Profile}
use Rattle.owl_command.specs.declared.command.Profile.TheVariants.{Dl, El, Ql, Rl}
use Rattle.owl_command.specs.declared.command.Action.{Action}
use Rattle.owl_command.specs.declared.command.Action.TheVariants.{Translate, Check, Show, Declare, Canon, Digest}
use Rattle.owl_command.specs.declared.command.Command.{Command}
use Rattle.owl_command.specs.declared.command.Command.TheVariants.{OfMain, Same, Trial}
use Rattle.owl_command.specs.declared.command.Options.{Options}

-- the name ends in the suffix, behind at least one character
pub record EndsIn (suffix name : List ℕ) : Type 0 where
  pub front : List ℕ
  pub some : 0 < length front
  pub ends : name ≡ front ++ suffix

-- it ends in `.ofn` (Functional-Style Syntax), `.ttl` (Turtle), `.omn` (Manchester Syntax) or `.owc` (canonical bytes)
abbrev pub HasSuffix : List ℕ → Type 0
HasSuffix name =
    EndsIn (codes ".ofn") name ⊎ (EndsIn (codes ".ttl") name ⊎ (EndsIn (codes ".omn") name ⊎ EndsIn (codes ".owc") name))

-- a document's name, which doesn't begin with `-`
pub record IsName (name : List ℕ) : Type 0 where
  pub suffix : HasSuffix name
  pub no_flag : (rest : List ℕ) → name ≢ codes "-" ++ rest

-- the name is one of these
abbrev pub IsAmong : List (List ℕ) → List ℕ → Type 0
IsAmong [] name = ⊥
IsAmong (first ∷ others) name = (name ≡ first) ⊎ IsAmong others name

-- no name stands twice
abbrev pub AreDistinct : List (List ℕ) → Type 0
AreDistinct [] = Unit {0}
AreDistinct (name ∷ others) = (IsAmong others name → ⊥) × AreDistinct others

-- the most documents that words name
abbrev pub most_names : ℕ
most_names = 64

-- Documents by their names, each once. So words are far fewer than the 256 that are allowed.
pub record AreNames (names : List (List ℕ)) : Type 0 where
  pub some : 0 < length names
  pub few : length names ≤ most_names
  pub named : AllByRecursion IsName names
  pub distinct : AreDistinct names

-- an absolute IRI, in characters: a scheme, a colon, and what an IRI may have behind it
pub record IsAbsolute (iri : List ℕ) : Type 0 where
  pub scalars : all_scalars iri ≡ true
  pub is : IsIri iri

-- Documents by their names, and an absolute base IRI, if any.
pub record AreDocuments (options : Options) (names : List (List ℕ)) : Type 0 where
  pub named : AreNames names
  pub based : IfSome options.base IsAbsolute

-- the most classes that the document of a trial has
abbrev pub most_classes : ℕ
most_classes = 20000

-- so many classes the document of a trial may have
pub record IsTrialSize (size : ℕ) : Type 0 where
  pub some : 0 < size
  pub few : size ≤ most_classes

-- What words can ask for: an action, whether two documents say the same, or a trial of the program on a document of its own, with so
-- many classes. An action is of a main document, whose name is the first, and of those that it may import. Imports may be missing,
-- predicates may be guessed to be annotation properties, and the main document may have a base IRI, where that is said. Names are in
-- bytes, and a base IRI in characters.
pub data Request : Type 0 where
  of_main : Action → Options → List (List ℕ) → Request
  compares : List ℕ → List ℕ → Request
  tries : ℕ → Request

-- the documents, in the order in which they are read
abbrev pub names_of : Request → List (List ℕ)
names_of (of_main action options names) = names
names_of (compares first second) = first ∷ second ∷ []
names_of (tries size) = []

-- a document that is read, by its name, with the base IRI that it is read against, if any
pub record Source : Type 0 where
  pub name : List ℕ
  pub base : Option (List ℕ)

abbrev pub without_base : List ℕ → Source
without_base name = record { name = name; base = None }

-- the base IRI is that of the main document, which is the first
abbrev pub sources_against : Option (List ℕ) → List (List ℕ) → List Source
sources_against base [] = []
sources_against base (name ∷ names) = record { name = name; base = base } ∷ map without_base names

-- the documents with their base IRIs, in the order in which they are read
abbrev pub sources_of : Request → List Source
sources_of (of_main action options names) = sources_against options.base names
sources_of request = map without_base (names_of request)

-- the documents may be named so, with this base IRI, or the trial may have this size
abbrev pub IsAllowed : Request → Type 0
IsAllowed (of_main action options names) = AreDocuments options names
IsAllowed (compares first second) = AreNames (first ∷ second ∷ [])
IsAllowed (tries size) = IsTrialSize size

-- each import has to be there
abbrev pub AsksImports : Request → Type 0
AsksImports (of_main action options names) = options.partial ≡ false
AsksImports (compares first second) = ⊥
AsksImports (tries size) = ⊥

-- predicates are guessed to be annotation properties
abbrev pub Guesses : Request → Type 0
Guesses (of_main action options names) = options.guess ≡ true
Guesses (compares first second) = ⊥
Guesses (tries size) = ⊥

-- the words of a target
abbrev pub layout_words : Layout → List (List ℕ)
layout_words Flat = []
layout_words Nested = codes "--nest" ∷ []

abbrev pub target_words : Target → List (List ℕ)
target_words Fss = codes "fss" ∷ []
target_words (Ttl layout) = codes "ttl" ∷ layout_words layout
target_words Omn = codes "omn" ∷ []

-- the word of a profile
abbrev pub profile_word : Profile → List ℕ
profile_word Dl = codes "dl"
profile_word El = codes "el"
profile_word Ql = codes "ql"
profile_word Rl = codes "rl"

-- the first words of an action
abbrev pub action_words : Action → List (List ℕ)
action_words (Translate target) = codes "translate" ∷ codes "--to" ∷ target_words target
action_words (Check profile) = codes "check" ∷ codes "--profile" ∷ profile_word profile ∷ []
action_words Show = codes "show" ∷ []
action_words (Declare target) = codes "declare" ∷ codes "--to" ∷ target_words target
action_words Canon = codes "canon" ∷ []
action_words Digest = codes "digest" ∷ []

-- a word that is there or not
abbrev pub flag_word : List ℕ → Bool → List (List ℕ)
flag_word word false = []
flag_word word true = word ∷ []

-- the words of a base IRI, if there is one
abbrev pub base_words : Option (List ℕ) → List (List ℕ)
base_words None = []
base_words (Some iri) = codes "--base" ∷ encode_utf8_all iri ∷ []

-- the words of the options, in this order
abbrev pub flag_words : Options → List (List ℕ)
flag_words options = flag_word (codes "--partial") options.partial ++ (flag_word (codes "--guess") options.guess ++ base_words options.base)

-- the words, in bytes
abbrev pub words_of : Request → List (List ℕ)
words_of (of_main action options names) = action_words action ++ (flag_words options ++ names)
words_of (compares first second) = codes "same" ∷ first ∷ second ∷ []
words_of (tries size) = codes "trial" ∷ decimal size ∷ []

-- The words ask for this.
pub record Asks (words : List (List ℕ)) (request : Request) : Type 0 where
  pub allowed : IsAllowed request
  pub are : words ≡ words_of request

-- These words have no command.
abbrev pub HasNoCommand : List (List ℕ) → Type 0
HasNoCommand words = (request : Request) → Asks words request → ⊥

-- The words name this document.
pub record Name (words : List (List ℕ)) (name : List ℕ) : Type 0 where
  pub request : Request
  pub asks : Asks words request
  pub among : IsAmong (names_of request) name

-- what a command asks for
abbrev pub request_of : Command → Request
request_of (OfMain action options names) = of_main action options (map encode_utf8_all names.items)
request_of (Same first second) = compares (encode_utf8_all first) (encode_utf8_all second)
request_of (Trial size) = tries size

-- The words ask for what the command does.
abbrev pub IsCommand : List (List ℕ) → Command → Type 0
IsCommand words command = Asks words (request_of command)
