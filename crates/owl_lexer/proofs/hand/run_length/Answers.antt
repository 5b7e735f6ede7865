-- One more byte is of the run.
use Rattle.std.proofs.Common.{arith, refl}
use Rattle.owl_lexer.proofs.Hands.{run_more}
use Rattle.owl_lexer.proofs.hand.run_length.Goals as goal

pub loop-count-preserved : goal.loop-count-preserved
loop-count-preserved g c =
    (omega (arith, c.loop-count-test.true), run_more g.L.TokenLanguage.automaton c.args.state c.args.bytes.now c.loop-count.count c.loop-count-test.true c.loop-count.invariant.1 (c.if-leads_back.ensures refl))
