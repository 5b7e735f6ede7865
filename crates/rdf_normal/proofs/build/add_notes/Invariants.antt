use Rattle.std.proofs.Common.{◌≡◌, take}
use Rattle.rdf_normal.specs.Building.{with_notes}
use Rattle.rdf_normal.proofs.build.add_notes.Given as goal

abbrev pub invariant-ids : goal.invariant-ids
invariant-ids l = l.builder ≡ with_notes (take l.id-index l.ids) l.fn.builder
