-- A token was refused.
use Rattle.grammar_tests.proofs.Feeding.{wrong_token}
use Rattle.grammar_tests.proofs.sentence.feed_all.Goals as goal

pub returns-in-Err-clause-wrong : goal.returns-in-Err-clause-wrong
returns-in-Err-clause-wrong c = λ e.
    wrong_token c.args.classes.now c.loop-place.place _ c.loop-place.parser c.loop-place-test.true c.loop-place.invariant.fed (c.in-Err.ensures.refuses c.loop-place.invariant.fed.open_yet e)
