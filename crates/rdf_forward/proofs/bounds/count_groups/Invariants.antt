use Rattle.std.proofs.Common.{length}
use Rattle.owl_arena.specs.Held.{AreHeld, trees_at}
use Rattle.rdf_forward.specs.BareOrder.{AreOrdered}
use Rattle.rdf_forward.proofs.GroupCounting.{GroupsTaken}
use Rattle.rdf_forward.proofs.bounds.count_groups.Given as goal

abbrev pub invariant-loop-rest : goal.invariant-loop-rest
invariant-loop-rest l = record {
  on : GroupsTaken l.arena.trees l.left l.remaining l.axioms l.rest;
  held : AreHeld l.arena.trees l.rest;
  ordered : AreOrdered (trees_at l.arena.trees l.rest);
}

abbrev pub decreases-loop-rest : goal.decreases-loop-rest
decreases-loop-rest l = length l.rest
