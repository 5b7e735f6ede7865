use Rattle.std.proofs.Common.{◌≡◌, map, take}
use Rattle.rdf_normal.specs.Makings.{image}
use Rattle.rdf_normal.proofs.tidying.images.Given as goal

abbrev pub invariant-ids : goal.invariant-ids
invariant-ids l = l.images.items ≡ map (image l.known) (take l.id-index l.ids)
