use Rattle.rdf_graph.proofs.Empty.{nothing_is_a_graph}
use Rattle.rdf_graph.proofs.graph.Graph.empty.Goals as goal

pub invariant_of-result : goal.invariant_of-result
invariant_of-result c = (nothing_is_a_graph _ c.new.ensures.items, tt)
