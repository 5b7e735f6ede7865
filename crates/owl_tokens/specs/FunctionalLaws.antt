-- The automaton of Functional-Style Syntax knows the lexemes of its grammar.
use Rattle.std.specs.Prelude.{◌≡◌, true, refl}
use Rattle.owl_lexer.specs.Automata.{Knows}
use Rattle.owl_lexer.specs.Grammars.{IsLexeme}
use Rattle.owl_lexer.proofs.TableLaws.{table_knows}
use Rattle.owl_lexer.proofs.TableCheckLaws.{check_table}
use Rattle.owl_tokens.specs.FunctionalGrammar.{functional_grammar}
use Rattle.owl_tokens.specs.FunctionalOrigin.{functional_origin}
use Rattle.owl_tokens.specs.FunctionalTable.{functional_automaton, functional_table}

pub functional_checked : check_table functional_grammar functional_origin functional_table ≡ true
unfolding functional_grammar functional_origin functional_table
functional_checked = refl

pub functional_knows : Knows functional_automaton (IsLexeme functional_grammar)
functional_knows = table_knows functional_grammar functional_origin functional_table functional_checked
