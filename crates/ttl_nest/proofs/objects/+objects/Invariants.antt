use Rattle.std.proofs.Common.{◌+◌, ◌*◌, length}
use Rattle.ttl_nest.proofs.WritingLaws.{AreCellsLeft, ArePairsLeft}
use Rattle.ttl_nest.proofs.objects.+objects.Given as goal

abbrev pub decreases-add_object : goal.decreases-add_object
decreases-add_object l = l.depth * 8

abbrev pub decreases-add_element : goal.decreases-add_element
decreases-add_element l = l.depth * 8 + 1

abbrev pub decreases-add_pair : goal.decreases-add_pair
decreases-add_pair l = l.depth * 8 + 2

abbrev pub decreases-add_pairs : goal.decreases-add_pairs
decreases-add_pairs l = l.depth * 8 + 3

abbrev pub decreases-add_cells : goal.decreases-add_cells
decreases-add_cells l = l.depth * 8 + 3

abbrev pub decreases-add_round : goal.decreases-add_round
decreases-add_round l = l.depth * 8 + 4

abbrev pub decreases-add_square : goal.decreases-add_square
decreases-add_square l = l.depth * 8 + 4

abbrev pub invariant-add_cells-loop-left : goal.invariant-add_cells-loop-left
invariant-add_cells-loop-left l = AreCellsLeft l.source.graph.now l.source.prefixes.now l.fn.draft l.term l.draft l.cell l.left l.depth

abbrev pub invariant-add_pairs-loop-triple : goal.invariant-add_pairs-loop-triple
invariant-add_pairs-loop-triple l = ArePairsLeft l.source.graph.now l.source.prefixes.now l.fn.draft l.triples l.draft l.rest l.depth

abbrev pub decreases-add_pairs-loop-triple : goal.decreases-add_pairs-loop-triple
decreases-add_pairs-loop-triple l = length l.rest

abbrev pub decreases-add_cells-loop-left : goal.decreases-add_cells-loop-left
decreases-add_cells-loop-left l = l.left
