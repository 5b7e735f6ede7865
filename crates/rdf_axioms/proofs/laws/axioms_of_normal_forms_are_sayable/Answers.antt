use Rattle.rdf_axioms.proofs.NormalAxiomLaws.{axioms_sayable}
use Rattle.rdf_axioms.proofs.laws.axioms_of_normal_forms_are_sayable.Goals as goal

pub returns : goal.returns
returns c = axioms_sayable
