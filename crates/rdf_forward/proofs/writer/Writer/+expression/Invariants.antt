use Rattle.std.proofs.Common.{◌<◌, ◌+◌, ◌*◌, ◌^◌, length}
use Rattle.std.specs.List.{AllByRecursion}
use Rattle.rdf_forward.proofs.Cells.{LeadsOn}
use Rattle.rdf_forward.proofs.writer.Writer.+expression.Given as goal

abbrev pub decreases-write_tree : goal.decreases-write_tree
decreases-write_tree l = 8 * 2 ^ 64 * l.id + 7 * 2 ^ 64

abbrev pub decreases-write_node : goal.decreases-write_node
decreases-write_node l = 8 * 2 ^ 64 * l.id + 6 * 2 ^ 64

abbrev pub decreases-write_facet : goal.decreases-write_facet
decreases-write_facet l = 8 * 2 ^ 64 * l.above + 5 * 2 ^ 64

abbrev pub decreases-write_arcs : goal.decreases-write_arcs
decreases-write_arcs l = 8 * 2 ^ 64 * l.above + (4 * 2 ^ 64 + length l.parts.now)

abbrev pub decreases-write_part : goal.decreases-write_part
decreases-write_part l = 8 * 2 ^ 64 * l.above + (3 * 2 ^ 64 + 1)

abbrev pub decreases-write_drawn : goal.decreases-write_drawn
decreases-write_drawn l = 8 * 2 ^ 64 * l.above + 3 * 2 ^ 64

abbrev pub decreases-write_list : goal.decreases-write_list
decreases-write_list l = 8 * 2 ^ 64 * l.above + 2 * 2 ^ 64

abbrev pub decreases-write_twice : goal.decreases-write_twice
decreases-write_twice l = 8 * 2 ^ 64 * l.above + 2 ^ 64

abbrev pub decreases-write_cells : goal.decreases-write_cells
decreases-write_cells l = 8 * 2 ^ 64 * l.above + 2 ^ 64

abbrev pub decreases-write_cell : goal.decreases-write_cell
decreases-write_cell l = 8 * 2 ^ 64 * l.above

abbrev pub invariant-write_cells-loop-left : goal.invariant-write_cells-loop-left
invariant-write_cells-loop-left l = LeadsOn l.arena.trees l.initial.self l.self l.goes_on l.ids l.left × AllByRecursion (λ id. id < l.fn.above) l.left

abbrev pub decreases-write_cells-loop-left : goal.decreases-write_cells-loop-left
decreases-write_cells-loop-left l = length l.left
