use Rattle.rdf_mapping.specs.PlaceLaws.{place_of, root_again, root_at, roots_at, triples_at}
use Rattle.rdf_mapping.proofs.note_laws.groups_have_their_places.Goals as goal

pub returns-clause-place : goal.returns-clause-place
returns-clause-place c = place_of

pub returns-clause-triples : goal.returns-clause-triples
returns-clause-triples c = triples_at

pub returns-clause-roots : goal.returns-clause-roots
returns-clause-roots c = roots_at

pub returns-clause-root : goal.returns-clause-root
returns-clause-root c = root_at

pub returns-clause-again : goal.returns-clause-again
returns-clause-again c = root_again
