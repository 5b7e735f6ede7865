use Rattle.std.proofs.Common.{length}
use Rattle.ttl_nest.proofs.LineWritingLaws.{AreLinesLeft}
use Rattle.ttl_nest.proofs.lines.add_lines.Given as goal

abbrev pub invariant-loop-triple : goal.invariant-loop-triple
invariant-loop-triple l = AreLinesLeft l.source.graph.now l.source.prefixes.now l.fn.draft l.draft l.rest

abbrev pub decreases-loop-triple : goal.decreases-loop-triple
decreases-loop-triple l = length l.rest
