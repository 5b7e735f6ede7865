use Rattle.rdf_states.proofs.RenamedStatesLaws.{graph_labels, renamed_graph_says}
use Rattle.rdf_states.proofs.renamed_laws.renamed_graphs_state_their_ontologies.Goals as goal

pub returns-clause-labels : goal.returns-clause-labels
returns-clause-labels c = graph_labels

pub returns-clause-says : goal.returns-clause-says
returns-clause-says c = renamed_graph_says
