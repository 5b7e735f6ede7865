use Rattle.std.proofs.Common.{ap, ◌∙◌}
use Rattle.rdf_meaning.specs.declared.role.Role.TheVariants as role
use Rattle.std.specs.Option.{unwrap_or}
use Rattle.rdf_roles.specs.Tables.{RoleTable}
use Rattle.rdf_roles.proofs.NodeLaws.{table_tells}
use Rattle.rdf_roles.proofs.roles.Roles.role.Goals as goal

pub returns : goal.returns
returns c g is =
    c.unwrap_or.ensures ∙ ap (λ found. unwrap_or found role.Individual) (c.copied.ensures ∙ c.get.ensures.value)
    ∙ table_tells g c.args.node.now c.self.inside.table.entries (ap (λ (t : RoleTable). t.nodes) c.self.view_is ∙ is.nodes)
