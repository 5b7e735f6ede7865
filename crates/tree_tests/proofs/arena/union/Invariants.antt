use Rattle.owl_arena.specs.Held.{AreHeld}
use Rattle.tree_tests.proofs.arena.union.Given as goal

abbrev pub invariant-loop-class : goal.invariant-loop-class
invariant-loop-class l = AreHeld l.arena.trees l.kids.items
