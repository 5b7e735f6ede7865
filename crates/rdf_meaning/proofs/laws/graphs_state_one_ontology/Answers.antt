use Rattle.rdf_meaning.proofs.StatementLaws.{one_ontology, one_statement}
use Rattle.rdf_meaning.proofs.laws.graphs_state_one_ontology.Goals as goal

pub returns-clause-states : goal.returns-clause-states
returns-clause-states c = one_statement

pub returns-clause-says : goal.returns-clause-says
returns-clause-says c = one_ontology
