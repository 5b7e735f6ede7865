use Rattle.rdf_normal.proofs.AgainLaws.{normal_again}
use Rattle.rdf_normal.proofs.laws.normal_forms_stay.Goals as goal

pub returns : goal.returns
returns c = normal_again
