use Rattle.man_normal.proofs.FormLaws.{form_again, form_can_be_written, form_is_typed, form_stands}
use Rattle.man_normal.proofs.laws.normal_forms_can_be_written.Goals as goal

pub returns-clause-ontologies : goal.returns-clause-ontologies
returns-clause-ontologies c = form_stands

pub returns-clause-stay : goal.returns-clause-stay
returns-clause-stay c = form_again

pub returns-clause-said : goal.returns-clause-said
returns-clause-said c = form_can_be_written

pub returns-clause-typed : goal.returns-clause-typed
returns-clause-typed c = form_is_typed
