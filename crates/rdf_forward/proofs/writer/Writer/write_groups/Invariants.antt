use Rattle.std.proofs.Common.{length}
use Rattle.owl_arena.specs.Held.{AreHeld, trees_at}
use Rattle.rdf_forward.specs.BareOrder.{AreOrdered}
use Rattle.rdf_forward.proofs.GroupWriting.{GroupsOn}
use Rattle.rdf_forward.proofs.writer.Writer.write_groups.Given as goal

abbrev pub invariant-loop-left : goal.invariant-loop-left
invariant-loop-left l = record {
  on : GroupsOn l.arena.trees l.initial.self l.self l.axioms l.left;
  held : AreHeld l.arena.trees l.left;
  ordered : AreOrdered (trees_at l.arena.trees l.left);
}

abbrev pub decreases-loop-left : goal.decreases-loop-left
decreases-loop-left l = length l.left
