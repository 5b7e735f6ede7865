use Rattle.std.proofs.Common.{◌≡◌, ◌≤◌, drop, max}
use Rattle.owl_arena.specs.Held.{trees_at}
use Rattle.owl_arena.specs.Shared.{deepest}
use Rattle.owl_tree.specs.Trees.{kids_of, most_depth}
use Rattle.owl_arena.proofs.arena.Arena.depth_over.Given as goal

abbrev pub invariant-loop-kid : goal.invariant-loop-kid
invariant-loop-kid l = record {
  whole : max l.most (most_depth (kids_of (trees_at l.self.trees (drop l.kid-index l.kids)))) ≡ most_depth (kids_of (trees_at l.self.trees l.kids));
  few : l.most ≤ deepest;
}
