-- The automaton of Turtle's lexemes, as a table.
use Rattle.owl_lexer.specs.Tables.{Table}
use Rattle.ttl_tokens.specs.declared.table.TheConstants.{INTERVALS, KINDS, OTHERS, ROWS}

unfoldable pub turtle_table : Table
turtle_table = record { intervals = INTERVALS; others = OTHERS; rows = ROWS; kinds = KINDS }
