use Rattle.std.proofs.Common.{◌≡◌, ◌≤◌, ◌+◌, drop}
use Rattle.owl_arena.specs.Held.{trees_at}
use Rattle.owl_arena.specs.Shared.{heaviest}
use Rattle.owl_tree.specs.Trees.{kids_of, sum_weight}
use Rattle.owl_arena.proofs.arena.Arena.weight_over.Given as goal

abbrev pub invariant-loop-kid : goal.invariant-loop-kid
invariant-loop-kid l = record {
  whole : l.total + sum_weight (kids_of (trees_at l.self.trees (drop l.kid-index l.kids))) ≡ sum_weight (kids_of (trees_at l.self.trees l.kids)) + 1;
  few : l.total ≤ heaviest;
}
