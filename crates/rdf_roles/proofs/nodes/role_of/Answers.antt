use Rattle.std.proofs.Common.{ap, sym, ◌∙◌}
use Rattle.std.specs.Option.{unwrap_or}
use Rattle.rdf_meaning.specs.Nodes.{role_of}
use Rattle.rdf_meaning.specs.declared.role.Role.TheVariants as role
use Rattle.rdf_roles.proofs.NodeLaws.{table_is, table_tells}
use Rattle.rdf_roles.proofs.nodes.role_of.Goals as goal

pub returns-in-Blank : goal.returns-in-Blank
returns-in-Blank c g e =
    c.unwrap_or.ensures ∙ ap (λ found. unwrap_or found role.Individual) (c.copied.ensures ∙ c.get.ensures.value)
    ∙ table_tells g c.in-Blank.label c.args.table.now.entries (e ∙ table_is g) ∙ ap (role_of g) (sym c.in-Blank.is)
