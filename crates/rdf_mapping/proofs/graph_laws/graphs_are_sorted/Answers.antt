use Rattle.rdf_mapping.proofs.SortLaws.{mains_are, structural_has_role, structural_of_node}
use Rattle.rdf_mapping.proofs.graph_laws.graphs_are_sorted.Goals as goal

pub returns-clause-of_node : goal.returns-clause-of_node
returns-clause-of_node c = structural_of_node

pub returns-clause-has_role : goal.returns-clause-has_role
returns-clause-has_role c = structural_has_role

pub returns-clause-main : goal.returns-clause-main
returns-clause-main c = mains_are
