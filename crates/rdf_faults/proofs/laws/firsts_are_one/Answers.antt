use Rattle.rdf_faults.proofs.FirstLaws.{first_is_one, first_once}
use Rattle.rdf_faults.specs.Faults.{IsBadNode, IsUntypedPart}
use Rattle.rdf_faults.proofs.laws.firsts_are_one.Goals as goal

pub returns-clause-node : goal.returns-clause-node
returns-clause-node c = λ g. first_once (IsBadNode g)

pub returns-clause-triple : goal.returns-clause-triple
returns-clause-triple c = λ g k. first_once (IsUntypedPart g k)

pub returns-clause-no_node : goal.returns-clause-no_node
returns-clause-no_node c = λ g. first_is_one (IsBadNode g)

pub returns-clause-no_triple : goal.returns-clause-no_triple
returns-clause-no_triple c = λ g k. first_is_one (IsUntypedPart g k)
