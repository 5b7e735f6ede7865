use Rattle.rdf_states.proofs.ThinLaws.{form_is_thin, graph_is_thin}
use Rattle.rdf_states.proofs.thin_laws.graphs_are_thin.Goals as goal

pub returns-clause-own : goal.returns-clause-own
returns-clause-own c = graph_is_thin

pub returns-clause-form : goal.returns-clause-form
returns-clause-form c = form_is_thin
