use Rattle.rdf_meaning.proofs.AxiomLaws.{notes_of_triples, triples_have_notes}
use Rattle.rdf_meaning.proofs.laws.annotations_are_of_triples.Goals as goal

pub returns-clause-triples : goal.returns-clause-triples
returns-clause-triples c = notes_of_triples

pub returns-clause-each_triple : goal.returns-clause-each_triple
returns-clause-each_triple c = triples_have_notes
