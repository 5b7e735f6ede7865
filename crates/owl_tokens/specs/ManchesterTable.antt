-- The automaton of Manchester Syntax.
use Rattle.owl_lexer.specs.Automata.{Automaton}
use Rattle.owl_lexer.specs.Tables.{Table, automaton_of}
use Rattle.owl_tokens.specs.declared.manchester_table.TheConstants.{INTERVALS, KINDS, OTHERS, ROWS}

unfoldable pub manchester_table : Table
manchester_table = record { intervals = INTERVALS; others = OTHERS; rows = ROWS; kinds = KINDS }

abbrev pub manchester_automaton : Automaton
manchester_automaton = automaton_of manchester_table
