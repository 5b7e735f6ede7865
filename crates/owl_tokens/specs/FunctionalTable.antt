-- The automaton of Functional-Style Syntax.
use Rattle.owl_lexer.specs.Automata.{Automaton}
use Rattle.owl_lexer.specs.Tables.{Table, automaton_of}
use Rattle.owl_tokens.specs.declared.functional_table.TheConstants.{INTERVALS, KINDS, OTHERS, ROWS}

unfoldable pub functional_table : Table
functional_table = record { intervals = INTERVALS; others = OTHERS; rows = ROWS; kinds = KINDS }

abbrev pub functional_automaton : Automaton
functional_automaton = automaton_of functional_table
