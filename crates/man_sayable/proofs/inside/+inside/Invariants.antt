use Rattle.std.proofs.Common.{◌+◌, ◌*◌}
use Rattle.sayable_parts.proofs.WalkLaws.{AreSaidBefore, above}
use Rattle.man_sayable.proofs.InsideSearch.{objection_at}
use Rattle.man_sayable.proofs.inside.+inside.Given as goal

abbrev pub decreases-kids_objection : goal.decreases-kids_objection
decreases-kids_objection l = 2 * above l.ids.now

abbrev pub decreases-inner_objection : goal.decreases-inner_objection
decreases-inner_objection l = 2 * l.id + 1

abbrev pub invariant-kids_objection-ids : goal.invariant-kids_objection-ids
invariant-kids_objection-ids l = AreSaidBefore (objection_at l.look l.arena.trees) l.id-index l.ids
