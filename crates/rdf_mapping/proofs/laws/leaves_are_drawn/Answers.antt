use Rattle.rdf_mapping.proofs.LeafDrawingLaws.{leaf_drawn}
use Rattle.rdf_mapping.proofs.laws.leaves_are_drawn.Goals as goal

pub returns : goal.returns
returns c = leaf_drawn
