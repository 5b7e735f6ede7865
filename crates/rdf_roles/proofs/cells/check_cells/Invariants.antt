use Rattle.rdf_faults.specs.Faults.{IsBadCell}
use Rattle.rdf_roles.proofs.FirstLaws.{HoldsNowhereBelow}
use Rattle.rdf_roles.specs.Tables.{blank_nodes}
use Rattle.rdf_roles.proofs.cells.check_cells.Given as goal

abbrev pub invariant-loop-number : goal.invariant-loop-number
invariant-loop-number l = HoldsNowhereBelow (IsBadCell l.graph) (blank_nodes l.graph) l.number
