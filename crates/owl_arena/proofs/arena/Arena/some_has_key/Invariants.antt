use Rattle.std.proofs.Common.{drop}
use Rattle.owl_arena.specs.Held.{trees_at}
use Rattle.owl_tree.specs.Shape.{HasKeyProperty}
use Rattle.owl_arena.proofs.arena.Arena.some_has_key.Given as goal

abbrev pub invariant-loop-kid : goal.invariant-loop-kid
invariant-loop-kid l = HasKeyProperty (trees_at l.self.trees l.kids) → HasKeyProperty (trees_at l.self.trees (drop l.kid-index l.kids))
