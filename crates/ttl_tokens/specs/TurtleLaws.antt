-- The table is that of the grammar: it knows the lexemes of Turtle.
use Rattle.std.specs.Prelude.{◌≡◌, true, refl}
use Rattle.owl_lexer.specs.Automata.{Knows}
use Rattle.owl_lexer.specs.Grammars.{IsLexeme}
use Rattle.owl_lexer.proofs.TableLaws.{table_knows}
use Rattle.owl_lexer.proofs.TableCheckLaws.{check_table}
use Rattle.owl_lexer.specs.Tables.{automaton_of}
use Rattle.ttl_tokens.specs.TurtleGrammar.{turtle_grammar}
use Rattle.ttl_tokens.specs.TurtleOrigin.{turtle_origin}
use Rattle.ttl_tokens.specs.TurtleTable.{turtle_table}

pub turtle_table_passes : check_table turtle_grammar turtle_origin turtle_table ≡ true
unfolding turtle_grammar turtle_origin turtle_table
turtle_table_passes = refl

pub turtle_knows : Knows (automaton_of turtle_table) (IsLexeme turtle_grammar)
turtle_knows = table_knows turtle_grammar turtle_origin turtle_table turtle_table_passes
