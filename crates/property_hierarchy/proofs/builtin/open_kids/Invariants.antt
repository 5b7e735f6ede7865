use Rattle.property_hierarchy.proofs.Placing.{HoldsKidsBefore}
use Rattle.property_hierarchy.proofs.builtin.open_kids.Given as goal

abbrev pub invariant-places : goal.invariant-places
invariant-places l = HoldsKidsBefore l.arena.trees l.place
