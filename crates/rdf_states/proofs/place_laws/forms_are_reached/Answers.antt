use Rattle.rdf_states.specs.UnderLaws.{form_under, sound_under}
use Rattle.rdf_states.proofs.place_laws.forms_are_reached.Goals as goal

pub returns-clause-reached : goal.returns-clause-reached
returns-clause-reached c = form_under

pub returns-clause-sound : goal.returns-clause-sound
returns-clause-sound c = sound_under
