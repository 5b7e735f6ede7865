use Rattle.rdf_mapping.proofs.WholeFrameLaws.{fresh_named_apart, graph_keeps}
use Rattle.rdf_mapping.proofs.laws.graphs_keep_their_groups.Goals as goal

pub returns-clause-labels : goal.returns-clause-labels
returns-clause-labels c = fresh_named_apart

pub returns-clause-groups : goal.returns-clause-groups
returns-clause-groups c = graph_keeps
