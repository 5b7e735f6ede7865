use Rattle.rdf_states.proofs.NormalStatesLaws.{form_axioms_typed, form_notes_typed, form_said, form_says}
use Rattle.rdf_states.proofs.state_laws.normal_forms_are_stated.Goals as goal

pub returns-clause-said : goal.returns-clause-said
returns-clause-said c = form_said

pub returns-clause-typed : goal.returns-clause-typed
returns-clause-typed c = λ k o notes axioms. (form_notes_typed k o notes axioms, form_axioms_typed k o notes axioms)

pub returns-clause-says : goal.returns-clause-says
returns-clause-says c = form_says
