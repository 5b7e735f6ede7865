use Rattle.std.proofs.Common.{◌≡◌, take}
use Rattle.rdf_normal.proofs.copies.copy_all.Given as goal

abbrev pub invariant-places : goal.invariant-places
invariant-places l = l.copy.trees ≡ take l.place l.arena.trees
