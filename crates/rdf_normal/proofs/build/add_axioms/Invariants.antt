use Rattle.std.proofs.Common.{◌≡◌, take}
use Rattle.rdf_normal.specs.Building.{with_axioms}
use Rattle.rdf_normal.proofs.build.add_axioms.Given as goal

abbrev pub invariant-ids : goal.invariant-ids
invariant-ids l = l.builder ≡ with_axioms (take l.id-index l.ids) l.fn.builder
