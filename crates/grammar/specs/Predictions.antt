-- What a grammar that passes the test says: which alternative a token predicts.
use Rattle.std.specs.Prelude.{◌≡◌, ℕ, ◌<◌, true, List, [], ◌∷◌, ◌++◌, nat_lt}
use Rattle.grammar.specs.ClassSets.{Has}
use Rattle.grammar.specs.Derivations.{DerivesOf, Event}
use Rattle.grammar.specs.Grammars.{Among, Entry, Row, entry, has_rule}
use Rattle.grammar.specs.Predicting.{are_followed, costs, empties, end_class, end_set, starts}
use Rattle.grammar.specs.declared.symbol.Symbol.{Symbol}
use Rattle.grammar.specs.declared.symbol.Symbol.TheVariants.{Act, Need, Rule}

-- the class of the first token, or of the end
abbrev pub ahead : {X : Type 0} → (X → ℕ) → List X → ℕ
ahead class_of [] = end_class
ahead class_of (x ∷ xs) = class_of x

-- an alternative meets the columns of its rule
pub record MeetsColumns (g : List Entry) (e : Entry) (row : Row) : Type 0 where
  pub mask : (c : ℕ) → Has (starts g e.follow row.symbols) c → Has row.mask c
  pub first : (c : ℕ) → Has (starts g 0 row.symbols) c → Has e.first c
  pub empty : empties g row.symbols ≡ true → e.empty ≡ true
  pub cost : costs g row.symbols < e.cost
  pub followed : are_followed g e.follow row.symbols ≡ true

-- a rule's alternatives meet its columns, and one of them at most is taken at a class
pub record IsPredictiveRule (g : List Entry) (e : Entry) : Type 0 where
  pub row : (row : Row) → Among row e.rows → MeetsColumns g e row
  pub one : (c : ℕ) (row other : Row) → Among row e.rows → Among other e.rows → Has row.mask c → Has other.mask c → row ≡ other
  pub end : nat_lt 0 e.cost ≡ true → (c : ℕ) → Has end_set c → Has e.follow c

-- the first token, or the end, predicts an alternative of each rule
pub record IsPredictive (g : List Entry) : Type 0 where
  pub rule : (r : ℕ) → IsPredictiveRule g (entry g r)

-- What begins behind each rule among these symbols is in its column, as it is of symbols that are expected where the tokens
-- of a rule are taken one by one.
abbrev pub AreFollowed : List Entry → List Symbol → Type 0
AreFollowed g [] = Unit {0}
AreFollowed g (Need c ∷ ss) = AreFollowed g ss
AreFollowed g (Act a ∷ ss) = AreFollowed g ss
AreFollowed g (Rule r ∷ ss) = (has_rule g r ≡ true) × ((c : ℕ) → Has (starts g end_set ss) c → Has (entry g r).follow c) × AreFollowed g ss

-- the alternative that is taken where a rule derives tokens
pub record Predicts {X : Type 0} (class_of : X → ℕ) (g : List Entry) (r : ℕ) (ss : List Symbol) (xs : List X) (es : List (Event X)) : Type 0 where
  pub row : Row
  pub among : Among row (entry g r).rows
  pub mask : Has row.mask (ahead class_of xs)
  pub derives : DerivesOf class_of g (row.symbols ++ ss) xs es
