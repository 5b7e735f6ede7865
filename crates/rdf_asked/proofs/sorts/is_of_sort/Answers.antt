use Rattle.std.proofs.Common.{ap, sym, ◌∙◌}
use Rattle.rdf_faults.specs.Asked.{is_of_sort}
use Rattle.rdf_rows.specs.Roles.{is_the_role}
use Rattle.rdf_asked.specs.Sorts.{is_literal_for, role_for}
use Rattle.rdf_asked.proofs.OfSort.{literal_of_sort, node_of_sort}
use Rattle.rdf_asked.proofs.sorts.is_of_sort.Goals as goal

pub returns-in-Blank : goal.returns-in-Blank
returns-in-Blank c g is =
    c.is_node_for.ensures ∙ ap (is_the_role (role_for c.args.sort)) (c.role.ensures g is) ∙ node_of_sort g c.args.kinds.now c.args.sort c.in-Blank.label
    ∙ ap (is_of_sort g c.args.kinds.now c.args.sort) (sym c.in-Blank.is)

pub returns-in-Literal : goal.returns-in-Literal
returns-in-Literal c g is =
    c.is_literal_for.ensures ∙ ap (is_literal_for c.args.sort) c.in-Literal.is ∙ literal_of_sort g c.args.kinds.now c.args.sort c.in-Literal.field-0
    ∙ ap (is_of_sort g c.args.kinds.now c.args.sort) (sym c.in-Literal.is)
