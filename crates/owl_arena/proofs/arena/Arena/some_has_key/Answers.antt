use Rattle.owl_arena.proofs.Shapes.{no_group}
use Rattle.owl_arena.proofs.arena.Arena.some_has_key.Goals as goal

pub loop-kid-preserved : goal.loop-kid-preserved
loop-kid-preserved c = λ k. no_group c.args.self.now.trees c.args.kids.now c.loop-kid.kid-index c.kid-item.result c.loop-kid-test.true c.kid-item.is c.has_key.result c.if-has_key.false c.has_key.ensures (c.loop-kid.invariant k)
