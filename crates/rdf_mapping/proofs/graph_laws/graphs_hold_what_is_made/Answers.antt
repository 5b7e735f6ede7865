use Rattle.rdf_mapping.specs.GraphLaws.{graph_apart, graph_holds, graph_keeps}
use Rattle.rdf_mapping.proofs.graph_laws.graphs_hold_what_is_made.Goals as goal

pub returns-clause-same : goal.returns-clause-same
returns-clause-same c = graph_holds

pub returns-clause-apart : goal.returns-clause-apart
returns-clause-apart c = graph_apart

pub returns-clause-keeps : goal.returns-clause-keeps
returns-clause-keeps c = graph_keeps
