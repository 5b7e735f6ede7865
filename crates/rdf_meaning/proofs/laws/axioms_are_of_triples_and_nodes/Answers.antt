use Rattle.rdf_meaning.proofs.AxiomLaws.{axioms_of_nodes, axioms_of_triples, nodes_have_axioms, triples_have_axioms}
use Rattle.rdf_meaning.proofs.laws.axioms_are_of_triples_and_nodes.Goals as goal

pub returns-clause-triples : goal.returns-clause-triples
returns-clause-triples c = axioms_of_triples

pub returns-clause-nodes : goal.returns-clause-nodes
returns-clause-nodes c = axioms_of_nodes

pub returns-clause-each_triple : goal.returns-clause-each_triple
returns-clause-each_triple c = triples_have_axioms

pub returns-clause-each_node : goal.returns-clause-each_node
returns-clause-each_node c = nodes_have_axioms
