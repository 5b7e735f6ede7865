-- Where something is taken again, it is settled.
use Rattle.std.proofs.Common.{rules}
use Rattle.std.proofs.lemmas.Result.{IfErr-weaker, on_ok_weaker}
use Rattle.owl_lexer.proofs.Moving.{refuses_rest, takes_settled}
use Rattle.owl_lexer.proofs.source.settle_rest.Goals as goal

pub returns-clause-ok : goal.returns-clause-ok
returns-clause-ok g c =
    on_ok_weaker c.settle.result
    (takes_settled g.L.TokenLanguage.automaton g.L.TokenLanguage.value_of c.args.source.now c.settle.new.hand c.args.again.now c.settle.new.again c.args.into.now.items c.settle.new.into.items c.requires.open_yet c.requires.ended (search rules))
    c.settle.ensures.ok

pub returns-clause-err : goal.returns-clause-err
returns-clause-err g c =
    IfErr-weaker c.settle.result _ _
    (λ fault r bytes. refuses_rest g.L.TokenLanguage.automaton g.L.TokenLanguage.value_of c.args.source.now c.args.again.now bytes c.args.into.now.items c.settle.new.into.items fault c.requires.open_yet c.requires.ended (search rules) r)
    c.settle.ensures.err
