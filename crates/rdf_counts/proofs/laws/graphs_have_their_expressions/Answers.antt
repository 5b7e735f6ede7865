use Rattle.rdf_counts.proofs.Groups.{graph_has}
use Rattle.rdf_counts.proofs.laws.graphs_have_their_expressions.Goals as goal

pub returns : goal.returns
returns c = graph_has
