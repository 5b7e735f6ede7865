use Rattle.std.proofs.Common.{◌+◌, ◌*◌}
use Rattle.owl_canon.proofs.Reading.{IsUnderWay}
use Rattle.owl_canon.proofs.trees.+reading.Given as goal

abbrev pub decreases-read_tree : goal.decreases-read_tree
decreases-read_tree l = 2 * l.levels + 1

abbrev pub decreases-read_trees : goal.decreases-read_trees
decreases-read_trees l = 2 * l.levels + 2

abbrev pub invariant-read_trees-trees : goal.invariant-read_trees-trees
invariant-read_trees-trees l =
    IsUnderWay l.levels l.count l.initial.input.rest.now l.initial.arena.trees l.arena.trees l.ids.items l.input.rest.now l._tree
