use Rattle.rdf_states.specs.PlaceLaws.{made_cases, made_root, one_place, places_apart}
use Rattle.rdf_states.proofs.place_laws.places_are_told_apart.Goals as goal

pub returns-clause-made : goal.returns-clause-made
returns-clause-made c = made_cases

pub returns-clause-root : goal.returns-clause-root
returns-clause-root c = made_root

pub returns-clause-apart : goal.returns-clause-apart
returns-clause-apart c = places_apart

pub returns-clause-one : goal.returns-clause-one
returns-clause-one c = one_place
