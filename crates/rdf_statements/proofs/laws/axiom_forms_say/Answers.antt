use Rattle.rdf_statements.proofs.FormLaws.{axiom_form_says}
use Rattle.rdf_statements.proofs.laws.axiom_forms_say.Goals as goal

pub returns : goal.returns
returns c = axiom_form_says
