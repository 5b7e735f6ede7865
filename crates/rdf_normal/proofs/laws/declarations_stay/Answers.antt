use Rattle.rdf_normal.proofs.DeclaredLaws.{declares_same}
use Rattle.rdf_normal.proofs.laws.declarations_stay.Goals as goal

pub returns : goal.returns
returns c = declares_same
