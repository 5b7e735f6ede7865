use Rattle.std.proofs.Common.{◌+◌, ◌*◌}
use Rattle.man_write.specs.Parts.{ids_in, operand_at, turned_if, words_seen}
use Rattle.man_write.proofs.JoinedLaws.{AreJoined}
use Rattle.man_write.proofs.tree.+tree.Given as goal

abbrev pub decreases-add_operands : goal.decreases-add_operands
decreases-add_operands l = 7 * l.id + 0

abbrev pub decreases-add_words_around : goal.decreases-add_words_around
decreases-add_words_around l = 7 * l.id + 1

abbrev pub decreases-add_node : goal.decreases-add_node
decreases-add_node l = 7 * l.id + 2

abbrev pub decreases-add_tree : goal.decreases-add_tree
decreases-add_tree l = 7 * l.id + 3

abbrev pub decreases-add_bracketed : goal.decreases-add_bracketed
decreases-add_bracketed l = 7 * l.id + 4

abbrev pub decreases-add_operand : goal.decreases-add_operand
decreases-add_operand l = 7 * l.id + 5

abbrev pub decreases-add_part : goal.decreases-add_part
decreases-add_part l = 7 * l.id + 6

abbrev pub invariant-add_operands-loop-place : goal.invariant-add_operands-loop-place
invariant-add_operands-loop-place l = AreJoined (words_seen l.words) (operand_at l.prefixes l.arena.trees) l.fn.draft (turned_if l.counted (ids_in l.list)) l.place l.draft
