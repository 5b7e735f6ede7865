use Rattle.std.proofs.Common.{◌+◌, ◌*◌}
use Rattle.owl_doc.proofs.FirstUndeclared.{AreTypedBefore}
use Rattle.owl_doc.proofs.SameTrees.{above}
use Rattle.owl_doc.proofs.typing.+undeclared.Given as goal

abbrev pub decreases-first_undeclared : goal.decreases-first_undeclared
decreases-first_undeclared l = 2 * above l.ids.now

abbrev pub decreases-undeclared_in : goal.decreases-undeclared_in
decreases-undeclared_in l = 2 * l.id + 1

abbrev pub invariant-first_undeclared-ids : goal.invariant-first_undeclared-ids
invariant-first_undeclared-ids l = AreTypedBefore l.kinds l.arena.trees l.id-index l.ids
