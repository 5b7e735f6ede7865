use Rattle.std.proofs.Common.{length}
use Rattle.rdf_roles.proofs.Walk.{IsWalked}
use Rattle.rdf_roles.proofs.table.add_nodes.Given as goal

abbrev pub invariant-loop-triple : goal.invariant-loop-triple
invariant-loop-triple l = IsWalked l.graph l.rest l.table.entries

abbrev pub decreases-loop-triple : goal.decreases-loop-triple
decreases-loop-triple l = length l.rest
