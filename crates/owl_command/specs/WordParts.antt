-- What the first words of the command line leave to those behind them.
use Rattle.std.specs.Prelude.{◌≡◌, ◌≢◌, ◌==◌, ◌&&◌, ℕ, Bool, false, true, get_or, not, Option, IfSome, List, [], ◌∷◌, ◌++◌, codes}
use Rattle.std.specs.Fmt.{decimal}
use Rattle.std.specs.Str.{all_ascii_digits}
use Rattle.owl_command.specs.Commands.{AreDocuments, AreNames, IsAbsolute, IsTrialSize, action_words, base_words, flag_word, flag_words, target_words}
use Rattle.owl_command.specs.declared.command.Action.{Action}
use Rattle.owl_command.specs.declared.command.Action.TheVariants.{Translate, Check, Show, Declare, Canon, Digest}
use Rattle.owl_command.specs.declared.command.Layout.{Layout}
use Rattle.owl_command.specs.declared.command.Layout.TheVariants.{Flat, Nested}
use Rattle.owl_command.specs.declared.command.Options.{Options}
use Rattle.owl_command.specs.declared.command.Target.{Target}
use Rattle.owl_command.specs.declared.command.Target.TheVariants.{Fss, Ttl, Omn}
use Rattle.owl_command.specs.declared.command.WordsFault.{WordsFault}
use Rattle.owl_command.specs.declared.command.WordsFault.TheVariants.{Words, Memory}
use Rattle.rdf_terms.specs.declared.fault.IriFault.{IriFault}
use Rattle.rdf_terms.specs.declared.fault.IriFault.TheVariants.{BadIri, Memory as IriMemory}

-- whether this word stands first, and what is left behind it
pub record IsStripped (word : List ℕ) (words : List (List ℕ)) (flag : Bool) (others : List (List ℕ)) : Type 0 where
  pub are : words ≡ flag_word word flag ++ others
  pub whole : flag ≡ false → (rest : List (List ℕ)) → words ≢ word ∷ rest

-- these names, behind the words of this base IRI, if any
pub record NameAgainst (words : List (List ℕ)) (base : Option (List ℕ)) (names : List (List ℕ)) : Type 0 where
  pub right : AreNames names
  pub absolute : IfSome base IsAbsolute
  pub are : words ≡ base_words base ++ names

-- no names of documents, nor behind a base IRI
abbrev pub NameNoneAgainst : List (List ℕ) → Type 0
NameNoneAgainst words = (base : Option (List ℕ)) (names : List (List ℕ)) → NameAgainst words base names → ⊥

-- these names, behind the words of these options
pub record NameWith (words : List (List ℕ)) (options : Options) (names : List (List ℕ)) : Type 0 where
  pub right : AreDocuments options names
  pub are : words ≡ flag_words options ++ names

-- no names of documents
abbrev pub NameNone : List (List ℕ) → Type 0
NameNone words = (options : Options) (names : List (List ℕ)) → NameWith words options names → ⊥

-- whether the word `--nest` is there
abbrev pub chosen_layout : Bool → Layout
chosen_layout false = Flat
chosen_layout true = Nested

-- what stands behind a target doesn't belong to it
abbrev pub EndsTarget : Target → List (List ℕ) → Type 0
EndsTarget (Ttl Flat) others = (rest : List (List ℕ)) → others ≢ codes "--nest" ∷ rest
EndsTarget target others = Unit {0}

-- the words begin with those of a target, and these stand behind it
pub record NamesTarget (words : List (List ℕ)) (target : Target) (others : List (List ℕ)) : Type 0 where
  pub are : words ≡ target_words target ++ others
  pub whole : EndsTarget target others

-- the words begin with those of no target
abbrev pub NameNoTarget : List (List ℕ) → Type 0
NameNoTarget words = (target : Target) (others : List (List ℕ)) → words ≢ target_words target ++ others

-- what stands behind an action doesn't belong to it
abbrev pub EndsAction : Action → List (List ℕ) → Type 0
EndsAction (Translate target) others = EndsTarget target others
EndsAction (Declare target) others = EndsTarget target others
EndsAction action others = Unit {0}

-- the words begin with those of an action, and these stand behind it
pub record NamesAction (words : List (List ℕ)) (action : Action) (others : List (List ℕ)) : Type 0 where
  pub are : words ≡ action_words action ++ others
  pub whole : EndsAction action others

-- the words begin with no action of one word
pub record NameNoVerb (words : List (List ℕ)) : Type 0 where
  pub show : (others : List (List ℕ)) → words ≢ codes "show" ∷ others
  pub canon : (others : List (List ℕ)) → words ≢ codes "canon" ∷ others
  pub digest : (others : List (List ℕ)) → words ≢ codes "digest" ∷ others

-- two names of documents
pub record AreTwoNames (words : List (List ℕ)) : Type 0 where
  pub first : List ℕ
  pub second : List ℕ
  pub are : words ≡ first ∷ second ∷ []
  pub names : AreNames words

-- digits without a leading zero
abbrev pub are_digits : List ℕ → Bool
are_digits word = not (get_or word 0 0 == 0x30) && all_ascii_digits word

-- the word is a size of a trial
pub record IsSizeWord (word : List ℕ) (size : ℕ) : Type 0 where
  pub allowed : IsTrialSize size
  pub written : word ≡ decimal size

-- it is none
abbrev pub IsNoSizeWord : List ℕ → Type 0
IsNoSizeWord word = (size : ℕ) → IsSizeWord word size → ⊥

-- one word, which is a size of a trial
pub record IsOneSize (words : List (List ℕ)) : Type 0 where
  pub size : ℕ
  pub word : List ℕ
  pub are : words ≡ word ∷ []
  pub is : IsSizeWord word size

-- what comes of words whose base is no IRI
abbrev pub fault_of_iri : IriFault → WordsFault
fault_of_iri BadIri = Words
fault_of_iri IriMemory = Memory
