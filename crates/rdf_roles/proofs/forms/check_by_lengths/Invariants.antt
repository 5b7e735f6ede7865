use Rattle.rdf_faults.specs.Faults.{IsBadNode}
use Rattle.rdf_roles.proofs.FirstLaws.{HoldsNowhereBelow}
use Rattle.rdf_roles.specs.Tables.{blank_nodes}
use Rattle.rdf_roles.proofs.forms.check_by_lengths.Given as goal

abbrev pub invariant-loop-number : goal.invariant-loop-number
invariant-loop-number l = HoldsNowhereBelow (IsBadNode l.graph) (blank_nodes l.graph) l.number
