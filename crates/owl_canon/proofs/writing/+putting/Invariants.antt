use Rattle.std.proofs.Common.{◌+◌, ◌*◌, take}
use Rattle.owl_arena.specs.Held.{trees_at}
use Rattle.owl_doc.proofs.SameTrees.{above}
use Rattle.owl_canon.specs.Bytes.{tree_bytes}
use Rattle.owl_canon.specs.Limits.{IsCountable}
use Rattle.owl_canon.proofs.Putting.{IsPut}
use Rattle.owl_canon.proofs.writing.+putting.Given as goal

abbrev pub decreases-put_each_tree : goal.decreases-put_each_tree
decreases-put_each_tree l = 2 * above l.ids.now

abbrev pub decreases-put_tree : goal.decreases-put_tree
decreases-put_tree l = 2 * l.id + 1

abbrev pub invariant-put_each_tree-ids : goal.invariant-put_each_tree-ids
invariant-put_each_tree-ids l =
    IsPut IsCountable tree_bytes l.initial.sink (trees_at l.arena.trees (take l.id-index l.ids)) l.sink
