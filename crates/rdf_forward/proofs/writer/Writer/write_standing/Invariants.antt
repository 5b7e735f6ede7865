use Rattle.std.proofs.Common.{length}
use Rattle.owl_arena.specs.Held.{AreHeld}
use Rattle.rdf_mapping.specs.Drawing.{arcs_of, placed}
use Rattle.rdf_mapping.specs.Arenas.{kids_at}
use Rattle.rdf_forward.proofs.Axioms.{StandingOn}
use Rattle.rdf_forward.proofs.writer.Writer.write_standing.Given as goal

abbrev pub invariant-loop-left : goal.invariant-loop-left
invariant-loop-left l = StandingOn l.below.arena.now.trees (arcs_of (placed l.parts (kids_at l.below.arena.now.trees l.kids))) l.initial.self l.self l.below.axioms.now l.left × AreHeld l.below.arena.now.trees l.left

abbrev pub decreases-loop-left : goal.decreases-loop-left
decreases-loop-left l = length l.left
