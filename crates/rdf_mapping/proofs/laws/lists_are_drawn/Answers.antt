use Rattle.rdf_mapping.proofs.ListDrawingLaws.{listed_drawn}
use Rattle.rdf_mapping.proofs.laws.lists_are_drawn.Goals as goal

pub returns : goal.returns
returns c = listed_drawn
