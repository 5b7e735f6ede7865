-- All is cut.
use Rattle.std.proofs.Common.{rules}
use Rattle.std.proofs.lemmas.Result.{IfErr-weaker}
use Rattle.owl_lexer.proofs.Cuts.{finishes_again, finishes_badly, on_ok_both}
use Rattle.owl_lexer.proofs.characters.finish.Goals as goal

pub returns-clause-ok : goal.returns-clause-ok
returns-clause-ok g c =
    on_ok_both c.settle.result
    (λ settles done. finishes_again g.L.TokenLanguage.automaton g.L.TokenLanguage.value_of c.args.hand.now c.settle.new.hand c.nothing_again-again.result c.settle.new.again c.args.into.now.items c.settle.new.into.items c.requires.ready c.nothing_again-again.ensures.chars c.nothing_again-again.ensures.ended settles (done (search rules)))
    c.settle.ensures.ok c.settle.ensures.done

pub returns-clause-err : goal.returns-clause-err
returns-clause-err g c =
    IfErr-weaker c.settle.result _ _
    (λ fault. finishes_badly g.L.TokenLanguage.automaton g.L.TokenLanguage.value_of c.args.hand.now c.nothing_again-again.result c.args.into.now.items c.settle.new.into.items fault c.nothing_again-again.ensures.chars)
    c.settle.ensures.err
