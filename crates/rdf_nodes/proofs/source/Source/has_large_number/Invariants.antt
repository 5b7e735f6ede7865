use Rattle.std.proofs.Common.{length}
use Rattle.rdf_nodes.proofs.Scanning.{IsScanned}
use Rattle.rdf_nodes.proofs.source.Source.has_large_number.Given as goal

abbrev pub invariant-loop-triple : goal.invariant-loop-triple
invariant-loop-triple l = IsScanned l.self.graph.now l.rest

abbrev pub decreases-loop-triple : goal.decreases-loop-triple
decreases-loop-triple l = length l.rest
