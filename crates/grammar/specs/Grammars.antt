-- Grammars as lists of rules, and the columns by which a parser can predict.
use Rattle.std.specs.Prelude.{ℕ, false, Bool, List, [], ◌∷◌, nat_lt, slice_index_or}
use Rattle.grammar.specs.declared.symbol.Symbol.{Symbol}

-- an alternative of a rule, and the classes at which it is taken, as bits
pub record Row : Type 0 where
  pub mask : ℕ
  pub symbols : List Symbol

-- A rule is its alternatives. The other columns say what they come to, so that they can be tested one by one.
pub record Entry : Type 0 where
  pub rows : List Row
  -- the classes with which what the rule derives begins, as bits
  pub first : ℕ
  -- the classes that may stand behind what the rule derives, and the end, as bits
  pub follow : ℕ
  -- whether it may derive no tokens
  pub empty : Bool
  -- how many rules are expanded and acts done at most until a token is needed
  pub cost : ℕ
  -- one of its alternatives has rules of lower ranks only
  pub rank : ℕ

-- what stands for a rule that the grammar doesn't have
abbrev pub no_entry : Entry
no_entry = record { rows = []; first = 0; follow = 0; empty = false; cost = 0; rank = 0 }

-- a rule of a grammar, by its number
abbrev pub entry : List Entry → ℕ → Entry
entry g r = slice_index_or g r no_entry

-- whether a grammar has a rule: each costs a step at least
abbrev pub has_rule : List Entry → ℕ → Bool
has_rule g r = nat_lt 0 (entry g r).cost

-- a row is one of these
pub data Among (row : Row) : List Row → Type 0 where
  here : {rows : List Row} → Among row (row ∷ rows)
  behind : {other : Row} {rows : List Row} → Among row rows → Among row (other ∷ rows)
