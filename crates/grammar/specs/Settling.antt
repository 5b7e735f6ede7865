-- How a parser comes to the next token that it needs.
use Rattle.std.specs.Prelude.{◌≡◌, ℕ, Option, None, Some, List, [], ◌∷◌, ◌++◌, map}
use Rattle.grammar.specs.Derivations.{Derives, Event, own_class}
use Rattle.grammar.specs.Derivations.Event.{Do, Take}
use Rattle.grammar.specs.Grammars.{Entry}
use Rattle.grammar.specs.Parsing.{GoesOn, Leads}
use Rattle.grammar.specs.Predictions.{AreFollowed, ahead}
use Rattle.grammar.specs.declared.symbol.Symbol.{Symbol}
use Rattle.grammar.specs.declared.symbol.Symbol.TheVariants.{Need}

-- These acts, which were added to a list, are done on the way from old to new where a token of this class, or the end, is next.
pub record Settles (g : List Entry) (class : ℕ) (old : List Symbol) (before : List ℕ) (new : List Symbol) (after : List ℕ) : Type 0 where
  pub given : List ℕ
  pub added : after ≡ before ++ given
  pub only : (ts : List ℕ) (es : List (Event ℕ)) → ahead own_class ts ≡ class → Derives g old ts es → GoesOn g (map Do given) new ts es
  pub all : (ts : List ℕ) (es : List (Event ℕ)) → Derives g new ts es → Derives g old ts (map Do given ++ es)
  pub followed : AreFollowed g new

-- nothing derives from symbols where a token of this class, or the end, is next
abbrev pub RefusesAt : List Entry → ℕ → List Symbol → Type 0
RefusesAt g class ss = (ts : List ℕ) (es : List (Event ℕ)) → ahead own_class ts ≡ class → Derives g ss ts es → ⊥

-- a token that is needed first, if one is
abbrev pub needed_first : Option ℕ → List Symbol → List Symbol
needed_first None ss = ss
needed_first (Some c) ss = Need c ∷ ss

-- A token of this class makes new of old, and the acts in front of it were added to a list.
pub record Steps (g : List Entry) (class : ℕ) (old : List Symbol) (before : List ℕ) (new : List Symbol) (after : List ℕ) : Type 0 where
  pub given : List ℕ
  pub added : after ≡ before ++ given
  pub leads : Leads g old (class ∷ []) (map Do given ++ Take class ∷ []) new
  pub followed : AreFollowed g new

-- Nothing more is needed, and the last acts were added to a list.
pub record Finishes (g : List Entry) (old : List Symbol) (before after : List ℕ) : Type 0 where
  pub given : List ℕ
  pub added : after ≡ before ++ given
  pub derives : Derives g old [] (map Do given)
  pub only : (es : List (Event ℕ)) → Derives g old [] es → es ≡ map Do given
