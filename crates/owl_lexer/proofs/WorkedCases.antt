-- A small language: spaces, numbers with or without a fraction, and dots. Its table passes the test, a table with another
-- cell does not, and what the automaton makes of some characters computes.
use Rattle.std.specs.Prelude.{◌≡◌, true, false, [], ◌∷◌, Some, None, codes, refl}
use Rattle.owl_lexer.specs.Automata.{Knows, kind_of}
use Rattle.owl_lexer.specs.Grammars.{Grammar, IsLexeme}
use Rattle.owl_lexer.specs.Grammars.CharacterSet.{inside}
use Rattle.owl_lexer.specs.Patterns.{Pattern}
use Rattle.owl_lexer.specs.Patterns.Pattern.{one}
use Rattle.owl_lexer.specs.PatternWords.{◌then◌, maybe, some}
use Rattle.owl_lexer.specs.Tables.{Table, automaton_of}
use Rattle.owl_lexer.proofs.TableLaws.{table_knows}
use Rattle.owl_lexer.proofs.TableCheckLaws.{Origin, check_table}

abbrev space : Pattern
space = one 0

abbrev dot : Pattern
dot = one 1

abbrev digit : Pattern
digit = one 2

unfoldable pub small_grammar : Grammar
small_grammar = record {
  sets = inside ((32, 32) ∷ []) ∷ inside ((46, 46) ∷ []) ∷ inside ((48, 57) ∷ []) ∷ [];
  terminals =
      record { kind = 1; pattern = some space }
      ∷ record { kind = 2; pattern = some digit then maybe (dot then some digit) }
      ∷ record { kind = 3; pattern = dot }
      ∷ [];
}

unfoldable pub small_table : Table
small_table = record {
  intervals = (31, 0) ∷ (32, 1) ∷ (45, 0) ∷ (46, 2) ∷ (47, 0) ∷ (57, 3) ∷ [];
  others = 0;
  rows =
      (255 ∷ 1 ∷ 3 ∷ 2 ∷ [])
      ∷ (255 ∷ 1 ∷ 255 ∷ 255 ∷ [])
      ∷ (255 ∷ 255 ∷ 4 ∷ 2 ∷ [])
      ∷ (255 ∷ 255 ∷ 255 ∷ 255 ∷ [])
      ∷ (255 ∷ 255 ∷ 255 ∷ 5 ∷ [])
      ∷ (255 ∷ 255 ∷ 255 ∷ 5 ∷ [])
      ∷ [];
  kinds = 0 ∷ 1 ∷ 2 ∷ 3 ∷ 0 ∷ 2 ∷ [];
}

abbrev pub small_origin : Origin
small_origin = record {
  characters = 0 ∷ 32 ∷ 46 ∷ 48 ∷ [];
  parents = (0, 1) ∷ (0, 3) ∷ (0, 2) ∷ (2, 2) ∷ (4, 3) ∷ [];
}

pub small_table_passes : check_table small_grammar small_origin small_table ≡ true
unfolding small_grammar small_table
small_table_passes = refl

pub small_table_knows : Knows (automaton_of small_table) (IsLexeme small_grammar)
small_table_knows = table_knows small_grammar small_origin small_table small_table_passes

-- the last state goes back to the one before it
pub wrong_table_fails : check_table small_grammar small_origin (record small_table { rows = (255 ∷ 1 ∷ 3 ∷ 2 ∷ []) ∷ (255 ∷ 1 ∷ 255 ∷ 255 ∷ []) ∷ (255 ∷ 255 ∷ 4 ∷ 2 ∷ []) ∷ (255 ∷ 255 ∷ 255 ∷ 255 ∷ []) ∷ (255 ∷ 255 ∷ 255 ∷ 5 ∷ []) ∷ (255 ∷ 255 ∷ 255 ∷ 4 ∷ []) ∷ [] }) ≡ false
unfolding small_grammar small_table
wrong_table_fails = refl

-- a number behind which a dot stands is not yet another
pub whole_number : kind_of (automaton_of small_table) (codes "12") ≡ Some 2
unfolding small_table
whole_number = refl

pub open_number : kind_of (automaton_of small_table) (codes "12.") ≡ None
unfolding small_table
open_number = refl

pub whole_fraction : kind_of (automaton_of small_table) (codes "12.5") ≡ Some 2
unfolding small_table
whole_fraction = refl
