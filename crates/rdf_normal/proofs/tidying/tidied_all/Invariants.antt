use Rattle.std.proofs.Common.{◌≡◌, length, map, take}
use Rattle.rdf_normal.specs.Makings.{AreMade}
use Rattle.rdf_normal.specs.NormalForms.{tidied}
use Rattle.rdf_normal.proofs.tidying.tidied_all.Given as goal

abbrev pub invariant-places : goal.invariant-places
invariant-places l = AreMade l.fn.arena.trees l.arena.trees l.made.items (map tidied (take l.place l.fn.arena.trees)) × (length l.made.items ≡ l.place)
