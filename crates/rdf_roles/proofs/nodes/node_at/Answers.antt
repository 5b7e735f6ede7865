use Rattle.std.proofs.Common.{None, Some}
use Rattle.rdf_roles.proofs.NodeNumbers.{node_stands}
use Rattle.rdf_roles.proofs.nodes.node_at.Goals as goal

pub returns-in-Some : goal.returns-in-Some
returns-in-Some c g e = node_stands g c.args.number c.args.table.now.entries (Some (c.in-Some.label.now, c.in-Some.role.now)) e c.in-Some.ensures.entry

pub returns-in-None : goal.returns-in-None
returns-in-None c g e = node_stands g c.args.number c.args.table.now.entries None e c.in-None.ensures.entry
