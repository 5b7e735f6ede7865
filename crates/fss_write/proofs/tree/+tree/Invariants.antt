use Rattle.std.proofs.Common.{◌+◌, ◌*◌, take}
use Rattle.fss_write.specs.Parts.{parts_at}
use Rattle.fss_write.proofs.PartTexts.{AreAdded}
use Rattle.fss_write.proofs.tree.+tree.Given as goal

abbrev pub decreases-add_parts : goal.decreases-add_parts
decreases-add_parts l = 4 * l.id + 3

abbrev pub decreases-add_node_parts : goal.decreases-add_node_parts
decreases-add_node_parts l = 4 * l.id + 2

abbrev pub decreases-add_node : goal.decreases-add_node
decreases-add_node l = 4 * l.id + 1

abbrev pub decreases-add_kids : goal.decreases-add_kids
decreases-add_kids l = 4 * l.id

abbrev pub invariant-add_kids-loop-kid : goal.invariant-add_kids-loop-kid
invariant-add_kids-loop-kid l = AreAdded (parts_at l.prefixes l.arena.trees l.tag) l.fn.draft l.fn.after_part (take l.kid-index l.kids) l.draft l.after_part
