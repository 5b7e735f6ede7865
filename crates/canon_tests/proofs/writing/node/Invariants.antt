use Rattle.owl_arena.specs.Held.{AreHeld}
use Rattle.canon_tests.proofs.writing.node.Given as goal

abbrev pub invariant-loop-id : goal.invariant-loop-id
invariant-loop-id l = AreHeld l.builder.arena.trees l.kids.items
