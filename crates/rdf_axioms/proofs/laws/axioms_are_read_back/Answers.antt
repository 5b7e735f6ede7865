use Rattle.rdf_axioms.proofs.ReadBackLaws.{axiom_read_back}
use Rattle.rdf_axioms.proofs.laws.axioms_are_read_back.Goals as goal

pub returns : goal.returns
returns c = axiom_read_back
