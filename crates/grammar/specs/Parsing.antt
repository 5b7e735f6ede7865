-- What a parser is, and what comes of it.
use Rattle.std.specs.Prelude.{◌≡◌, ℕ, Option, None, List, [], ◌∷◌, ◌++◌, map}
use Rattle.std.specs.List.{Contains}
use Rattle.grammar.specs.Derivations.{Begins, Derives, Event, Lives}
use Rattle.grammar.specs.Derivations.Event.{Do, Take}
use Rattle.grammar.specs.Grammars.{Entry}
use Rattle.grammar.specs.declared.fault.ParseFault.{ParseFault}
use Rattle.grammar.specs.declared.symbol.Symbol.{Symbol}

-- What a parser is: the symbols that it expects, and the refusal that it keeps.
pub record Parsing : Type 0 where
  pub expected : List Symbol
  pub refused : Option ParseFault

-- a parser that expects these symbols
abbrev pub expects : List Symbol → Parsing
expects ss = record { expected = ss; refused = None }

-- These events are the given ones, and then some with which these tokens derive.
pub record GoesOn (g : List Entry) (given : List (Event ℕ)) (ss : List Symbol) (tokens : List ℕ) (events : List (Event ℕ)) : Type 0 where
  pub more : List (Event ℕ)
  pub events_are : events ≡ given ++ more
  pub derives : Derives g ss tokens more

-- What derives from old and begins with these tokens begins with these events and goes on with what derives from new.
pub record Leads (g : List Entry) (old : List Symbol) (tokens : List ℕ) (events : List (Event ℕ)) (new : List Symbol) : Type 0 where
  pub only : (more : List ℕ) (es : List (Event ℕ)) → Derives g old (tokens ++ more) es → GoesOn g events new more es
  pub all : (more : List ℕ) (es : List (Event ℕ)) → Derives g new more es → Derives g old (tokens ++ more) (events ++ es)

-- A token of this class makes new of old, and the acts in front of it were added to a list. Something goes on from new.
pub record Feeds (g : List Entry) (old : Parsing) (class : ℕ) (before : List ℕ) (new : Parsing) (after : List ℕ) : Type 0 where
  pub was_open : old.refused ≡ None
  pub is_open : new.refused ≡ None
  pub given : List ℕ
  pub added : after ≡ before ++ given
  pub leads : Leads g old.expected (class ∷ []) (map Do given ++ Take class ∷ []) new.expected
  pub lives : Lives g new.expected

-- nothing that derives from these symbols begins with a token of this class
abbrev pub Refuses : List Entry → List Symbol → ℕ → Type 0
Refuses g ss class = (more : List ℕ) (es : List (Event ℕ)) → Derives g ss (class ∷ more) es → ⊥

-- something that derives from these symbols begins with a token of one of these classes
pub record TakesOneOf (g : List Entry) (ss : List Symbol) (classes : List ℕ) : Type 0 where
  pub class : ℕ
  pub among : Contains classes class
  pub begins : Begins g ss (class ∷ [])

-- Nothing more is needed, and the last acts, which are the only events of no tokens, were added to a list.
pub record Ends (g : List Entry) (old : Parsing) (before : List ℕ) (new : Parsing) (after : List ℕ) : Type 0 where
  pub was_open : old.refused ≡ None
  pub is : new ≡ expects []
  pub given : List ℕ
  pub added : after ≡ before ++ given
  pub derives : Derives g old.expected [] (map Do given)
  pub only : (es : List (Event ℕ)) → Derives g old.expected [] es → es ≡ map Do given

-- something is needed yet
abbrev pub NeedsMore : List Entry → List Symbol → Type 0
NeedsMore g ss = (es : List (Event ℕ)) → Derives g ss [] es → ⊥
