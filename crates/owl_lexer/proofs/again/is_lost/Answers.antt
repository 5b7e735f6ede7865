-- One of the runs stands at the state.
use Rattle.owl_lexer.proofs.Lost.{one_lost, same_state}
use Rattle.owl_lexer.proofs.again.is_lost.Goals as goal

pub returns-then-eq : goal.returns-then-eq
returns-then-eq c is a ended held cs all =
    one_lost a ended c.args.state held cs c.args.lost.now c.loop-run.run-index _ c.loop-run-test.true (same_state _ c.args.state c.if-eq.ensures) all
