-- The automaton of Manchester Syntax knows the lexemes of its grammar.
use Rattle.std.specs.Prelude.{◌≡◌, true, refl}
use Rattle.owl_lexer.specs.Automata.{Knows}
use Rattle.owl_lexer.specs.Grammars.{IsLexeme}
use Rattle.owl_lexer.proofs.TableLaws.{table_knows}
use Rattle.owl_lexer.proofs.TableCheckLaws.{check_table}
use Rattle.owl_tokens.specs.ManchesterGrammar.{manchester_grammar}
use Rattle.owl_tokens.specs.ManchesterOrigin.{manchester_origin}
use Rattle.owl_tokens.specs.ManchesterTable.{manchester_automaton, manchester_table}

pub manchester_checked : check_table manchester_grammar manchester_origin manchester_table ≡ true
unfolding manchester_grammar manchester_origin manchester_table
manchester_checked = refl

pub manchester_knows : Knows manchester_automaton (IsLexeme manchester_grammar)
manchester_knows = table_knows manchester_grammar manchester_origin manchester_table manchester_checked
