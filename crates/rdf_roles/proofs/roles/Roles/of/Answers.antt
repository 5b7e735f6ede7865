use Rattle.std.proofs.Common.{◌∙◌}
use Rattle.rdf_roles.proofs.NodeLaws.{table_is}
use Rattle.rdf_roles.proofs.roles.Roles.of.Goals as goal

pub returns-clause-ok : goal.returns-clause-ok
returns-clause-ok c = record { nodes = c.in_ok-table.ensures.ok ∙ table_is c.args.graph.now; order = c.in_ok-order.ensures.order }
