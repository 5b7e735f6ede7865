use Rattle.std.proofs.Common.{◌≡◌, length}
use Rattle.owl_arena.specs.Held.{AreHeld, trees_at}
use Rattle.owl_tree.specs.Order.{kids_cmp}
use Rattle.owl_tree.specs.Trees.{kids_of}
use Rattle.rdf_forward.proofs.groups.compare_kids.Given as goal

abbrev pub invariant-loop-left : goal.invariant-loop-left
invariant-loop-left l = record {
  left : AreHeld l.arena.trees l.left;
  right : AreHeld l.arena.trees l.right;
  decides : kids_cmp (kids_of (trees_at l.arena.trees l.left)) (kids_of (trees_at l.arena.trees l.right))
      ≡ kids_cmp (kids_of (trees_at l.arena.trees l.kids)) (kids_of (trees_at l.arena.trees l.others));
}

abbrev pub decreases-loop-left : goal.decreases-loop-left
decreases-loop-left l = length l.left
