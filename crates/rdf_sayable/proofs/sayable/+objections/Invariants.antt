use Rattle.std.proofs.Common.{◌+◌, ◌*◌}
use Rattle.sayable_parts.proofs.WalkLaws.{AreSaidBefore, above}
use Rattle.rdf_sayable.proofs.Searching.{objection_at}
use Rattle.rdf_sayable.proofs.sayable.+objections.Given as goal

abbrev pub decreases-trees_objection : goal.decreases-trees_objection
decreases-trees_objection l = 2 * above l.ids.now

abbrev pub decreases-tree_objection : goal.decreases-tree_objection
decreases-tree_objection l = 2 * l.id + 1

abbrev pub invariant-trees_objection-ids : goal.invariant-trees_objection-ids
invariant-trees_objection-ids l = AreSaidBefore (objection_at l.arena.trees) l.id-index l.ids
