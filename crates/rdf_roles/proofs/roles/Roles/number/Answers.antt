use Rattle.std.proofs.Common.{subst}
use Rattle.rdf_roles.specs.Tables.{HasNumber, RoleTable}
use Rattle.rdf_roles.proofs.NodeNumbers.{has_number}
use Rattle.rdf_roles.proofs.roles.Roles.number.Goals as goal

pub returns : goal.returns
returns c =
    subst (λ (t : RoleTable). HasNumber t.nodes c.args.node.now c.get_index_of.result) c.self.view_is
    (has_number c.self.inside.table.entries c.args.node.now c.get_index_of.result c.get_index_of.ensures.index)
