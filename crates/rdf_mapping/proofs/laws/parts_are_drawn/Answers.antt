use Rattle.rdf_mapping.proofs.RowDrawingLaws.{parts_drawn}
use Rattle.rdf_mapping.proofs.laws.parts_are_drawn.Goals as goal

pub returns : goal.returns
returns c = parts_drawn
