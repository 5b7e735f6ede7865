-- One way at most, by the laws of languages.
use Rattle.owl_lexer.proofs.OneWayLaws.{same_continues, same_splits}
use Rattle.owl_lexer.proofs.laws.tokens_come_one_way.Goals as goal

pub returns-clause-whole : goal.returns-clause-whole
returns-clause-whole g c = same_splits g.L.TokenLanguage.automaton g.L.TokenLanguage.value_of g.L.TokenLanguage.spells g.met.L.TokenLanguage.is_language

pub returns-clause-rest : goal.returns-clause-rest
returns-clause-rest g c = same_continues g.L.TokenLanguage.automaton g.L.TokenLanguage.value_of g.L.TokenLanguage.spells g.met.L.TokenLanguage.is_language
