use Rattle.std.proofs.Common.{◌≡◌, ◌+◌, ◌*◌, take}
use Rattle.owl_arena.specs.Held.{trees_at}
use Rattle.owl_doc.proofs.SameTrees.{above}
use Rattle.owl_doc.proofs.same.+same.Given as goal

abbrev pub decreases-are_same_trees : goal.decreases-are_same_trees
decreases-are_same_trees l = 2 * above l.ids.now

abbrev pub decreases-is_same_tree : goal.decreases-is_same_tree
decreases-is_same_tree l = 2 * l.id + 1

abbrev pub invariant-are_same_trees-places : goal.invariant-are_same_trees-places
invariant-are_same_trees-places l =
    trees_at l.one.trees (take l.place l.ids) ≡ trees_at l.other.trees (take l.place l.other_ids)
