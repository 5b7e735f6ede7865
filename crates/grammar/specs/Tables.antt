-- Tables of alternatives, as code has them.
use Rattle.std.specs.Prelude.{◌≡◌, ℕ, List, ◌++◌, map}
use Rattle.grammar.specs.ClassSets.{Has}
use Rattle.grammar.specs.Grammars.{Among, Row}
use Rattle.grammar.specs.declared.symbol.Symbol.{Symbol}
use Rattle.grammar.specs.declared.table.Row as code

-- an alternative as it stands in code
abbrev pub row_seen : code.Row → Row
row_seen row = record { mask = row.mask; symbols = row.symbols.now }

abbrev pub rows_seen : List code.Row → List Row
rows_seen rows = map row_seen rows

-- one of the alternatives is taken at a class, and has these symbols
pub record IsTaken (rows : List Row) (class : ℕ) (symbols : List Symbol) : Type 0 where
  pub row : Row
  pub among : Among row rows
  pub mask : Has row.mask class
  pub symbols_are : symbols ≡ row.symbols

-- none of the alternatives is taken at a class
pub record NoneIsTaken (rows : List Row) (class : ℕ) : Type 0 where
  pub row : (row : Row) → Among row rows → Has row.mask class → ⊥

-- the symbols of the alternative that is taken at a class stand in front of those that stood here
pub record IsExpanded (rows : List Row) (class : ℕ) (old new : List Symbol) : Type 0 where
  pub symbols : List Symbol
  pub taken : IsTaken rows class symbols
  pub new_is : new ≡ symbols ++ old
