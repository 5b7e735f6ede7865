use Rattle.rdf_states.proofs.CountLaws.{few_labels}
use Rattle.rdf_states.proofs.count_laws.graphs_have_few_nodes.Goals as goal

pub returns : goal.returns
returns c = few_labels
