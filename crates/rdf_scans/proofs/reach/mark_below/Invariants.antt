use Rattle.std.proofs.Common.{length}
use Rattle.rdf_scans.proofs.Reaching.{AreReachedSoFar}
use Rattle.rdf_scans.proofs.reach.mark_below.Given as goal

abbrev pub invariant-loop-number : goal.invariant-loop-number
invariant-loop-number l = AreReachedSoFar l.reading l.marks.items l.rest

abbrev pub decreases-loop-number : goal.decreases-loop-number
decreases-loop-number l = length l.rest
