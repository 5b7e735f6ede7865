use Rattle.std.proofs.Common.{length}
use Rattle.owl_arena.specs.Held.{AreHeld}
use Rattle.rdf_forward.proofs.Axioms.{SetsOn}
use Rattle.rdf_forward.proofs.writer.Writer.write_sets.Given as goal

abbrev pub invariant-loop-left : goal.invariant-loop-left
invariant-loop-left l = SetsOn l.arena.trees l.link l.initial.self l.self l.axioms l.left × AreHeld l.arena.trees l.left

abbrev pub decreases-loop-left : goal.decreases-loop-left
decreases-loop-left l = length l.left
