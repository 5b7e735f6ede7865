use Rattle.std.proofs.Common.{◌*◌, ◌+◌, ◌≤◌, length}
use Rattle.owl_arena.specs.Held.{AreHeld}
use Rattle.rdf_counts.proofs.ArenaLaws.{above_all}
use Rattle.rdf_counts.proofs.Taking.{TakesOn}
use Rattle.rdf_counts.proofs.count.+trees.Given as goal

abbrev pub decreases-count_kids : goal.decreases-count_kids
decreases-count_kids l = 3 * above_all l.kids.now

abbrev pub decreases-count_node : goal.decreases-count_node
decreases-count_node l = 3 * l.id + 1

abbrev pub decreases-count_tree : goal.decreases-count_tree
decreases-count_tree l = 3 * l.id + 2

abbrev pub invariant-count_kids-loop-rest : goal.invariant-count_kids-loop-rest
invariant-count_kids-loop-rest l = TakesOn l.arena.trees l.left l.remaining l.kids l.rest × AreHeld l.arena.trees l.rest × (above_all l.rest ≤ above_all l.kids)

abbrev pub decreases-count_kids-loop-rest : goal.decreases-count_kids-loop-rest
decreases-count_kids-loop-rest l = length l.rest
