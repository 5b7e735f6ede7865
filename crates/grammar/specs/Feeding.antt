-- What comes of the tokens that a parser was fed.
use Rattle.std.specs.Prelude.{◌≡◌, ℕ, List, [], ◌∷◌, ◌++◌, length}
use Rattle.grammar.specs.Derivations.{Begins, Derives, Event, Lives}
use Rattle.grammar.specs.Grammars.{Entry}
use Rattle.grammar.specs.Parsing.{Leads}
use Rattle.grammar.specs.declared.symbol.Symbol.{Symbol}

-- Tokens of these classes were fed where the start was expected, with these events, and these symbols are expected now. What
-- derives from the start and begins with these tokens goes on with what derives from these symbols, and something does.
pub record Fed (g : List Entry) (start : List Symbol) (front : List ℕ) (events : List (Event ℕ)) (expected : List Symbol) : Type 0 where
  pub leads : Leads g start front events expected
  pub lives : Lives g expected

-- the front is not all tokens that derive from the start, or with the next token it doesn't begin any
abbrev pub StopsAt : List Entry → List Symbol → List ℕ → List ℕ → Type 0
StopsAt g start front [] = (es : List (Event ℕ)) → Derives g start front es → ⊥
StopsAt g start front (class ∷ rest) = Begins g start (front ++ class ∷ []) → ⊥

-- The tokens in front of this place begin what derives from the start, and with the token at the place, or the end, they don't.
pub record DefectAt (g : List Entry) (start : List Symbol) (classes : List ℕ) (place : ℕ) : Type 0 where
  pub front : List ℕ
  pub rest : List ℕ
  pub classes_are : classes ≡ front ++ rest
  pub place_is : place ≡ length front
  pub begins : Begins g start front
  pub stops : StopsAt g start front rest
