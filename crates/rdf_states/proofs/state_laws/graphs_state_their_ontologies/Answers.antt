use Rattle.rdf_states.proofs.OntologyLaws.{ontology_said}
use Rattle.rdf_states.proofs.state_laws.graphs_state_their_ontologies.Goals as goal

pub returns : goal.returns
returns c = λ k o stated. ontology_said k o stated.can_be_drawn stated.no_clash
