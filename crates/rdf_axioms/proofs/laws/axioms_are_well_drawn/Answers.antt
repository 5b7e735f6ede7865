use Rattle.rdf_axioms.proofs.WellDrawnLaws.{axiom_well_drawn}
use Rattle.rdf_axioms.proofs.laws.axioms_are_well_drawn.Goals as goal

pub returns : goal.returns
returns c = axiom_well_drawn
