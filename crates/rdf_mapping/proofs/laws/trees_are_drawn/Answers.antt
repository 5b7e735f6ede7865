use Rattle.rdf_mapping.proofs.TreeDrawingLaws.{tree_drawn}
use Rattle.rdf_mapping.proofs.laws.trees_are_drawn.Goals as goal

pub returns : goal.returns
returns c = tree_drawn
