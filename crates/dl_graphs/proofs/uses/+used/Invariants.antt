use Rattle.std.proofs.Common.{◌+◌, ◌*◌, take}
use Rattle.owl_arena.specs.Held.{trees_at}
use Rattle.owl_doc.proofs.SameTrees.{above}
use Rattle.dl_graphs.specs.Uses.{AddsUsed, datatypes_among}
use Rattle.dl_graphs.proofs.uses.+used.Given as goal

abbrev pub decreases-push_all_used : goal.decreases-push_all_used
decreases-push_all_used l = 2 * above l.ids.now

abbrev pub decreases-push_used : goal.decreases-push_used
decreases-push_used l = 2 * l.id + 1

abbrev pub invariant-push_all_used-ids : goal.invariant-push_all_used-ids
invariant-push_all_used-ids l =
    AddsUsed l.arena.trees l.defined (datatypes_among (trees_at l.arena.trees (take l.id-index l.ids))) l.fn.pairs.items l.pairs.items
