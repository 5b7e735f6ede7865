use Rattle.std.proofs.Common.{length}
use Rattle.rdf_roles.proofs.CellLengths.{ArePassed}
use Rattle.rdf_roles.proofs.lengths.lengths_of.Given as goal

abbrev pub invariant-loop-number : goal.invariant-loop-number
invariant-loop-number l = ArePassed l.graph l.lengths.items l.rest

abbrev pub decreases-loop-number : goal.decreases-loop-number
decreases-loop-number l = length l.rest
