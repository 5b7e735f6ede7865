use Rattle.std.proofs.Common.{◌*◌, ◌+◌, ◌≤◌, length}
use Rattle.owl_arena.specs.Held.{AreHeld}
use Rattle.rdf_counts.proofs.ArenaLaws.{above_all}
use Rattle.rdf_forward.proofs.Counting.{CountsOn}
use Rattle.rdf_forward.proofs.labels.+labels.Given as goal

abbrev pub decreases-count_tree : goal.decreases-count_tree
decreases-count_tree l = 2 * l.id + 1

abbrev pub decreases-count_trees : goal.decreases-count_trees
decreases-count_trees l = 2 * above_all l.ids.now

abbrev pub invariant-count_trees-loop-left : goal.invariant-count_trees-loop-left
invariant-count_trees-loop-left l = CountsOn l.arena.trees l.initial.numbers l.numbers l.ids l.left × AreHeld l.arena.trees l.left × (above_all l.left ≤ above_all l.ids)

abbrev pub decreases-count_trees-loop-left : goal.decreases-count_trees-loop-left
decreases-count_trees-loop-left l = length l.left
