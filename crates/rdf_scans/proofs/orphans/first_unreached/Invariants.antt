use Rattle.rdf_roles.proofs.FirstLaws.{HoldsNowhereBelow}
use Rattle.rdf_roles.specs.Tables.{blank_nodes}
use Rattle.rdf_scans.specs.Reach.{IsOrphanIn}
use Rattle.rdf_scans.proofs.orphans.first_unreached.Given as goal

abbrev pub invariant-loop-number : goal.invariant-loop-number
invariant-loop-number l = HoldsNowhereBelow (IsOrphanIn l.reading) (blank_nodes l.reading.graph.now) l.number
