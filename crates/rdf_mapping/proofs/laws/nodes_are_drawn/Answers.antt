use Rattle.rdf_mapping.proofs.NodeDrawingLaws.{node_drawn}
use Rattle.rdf_mapping.proofs.laws.nodes_are_drawn.Goals as goal

pub returns : goal.returns
returns c = node_drawn
