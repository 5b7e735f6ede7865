use Rattle.rdf_normal.specs.Staying.{StayTidied}
use Rattle.rdf_normal.proofs.staying.are_tidy.Given as goal

abbrev pub invariant-places : goal.invariant-places
invariant-places l = StayTidied l.arena.trees l.place
