-- One way at least, as each lexeme that comes is the longest.
use Rattle.std.proofs.Common.{true, ◌++◌}
use Rattle.owl_lexer.proofs.LexingLaws.{always_split}
use Rattle.owl_lexer.proofs.laws.tokens_come_always.Goals as goal

pub returns-clause-whole : goal.returns-clause-whole
returns-clause-whole g c bytes =
    let o = always_split g.L.TokenLanguage.automaton g.L.TokenLanguage.value_of g.L.TokenLanguage.spells g.met.L.TokenLanguage.is_language true 0 bytes in
    (o.tokens, o.ending, o.splits)

pub returns-clause-rest : goal.returns-clause-rest
returns-clause-rest g c begun more =
    let o = always_split g.L.TokenLanguage.automaton g.L.TokenLanguage.value_of g.L.TokenLanguage.spells g.met.L.TokenLanguage.is_language begun.fresh begun.at (begun.held ++ more) in
    (o.tokens, o.ending, o.splits)
