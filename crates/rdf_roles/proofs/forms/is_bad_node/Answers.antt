use Rattle.std.proofs.Common.{◌≡◌, ◌∙◌, refl, sym}
use Rattle.std.proofs.lemmas.Bool.{both_ways}
use Rattle.rdf_graph.specs.declared.term.Term.TheVariants.{Blank}
use Rattle.rdf_meaning.specs.declared.role.Role.TheVariants as role
use Rattle.rdf_roles.proofs.NodeForms.{cell_is_no_bad_node, node_is_bad}
use Rattle.rdf_roles.proofs.forms.is_bad_node.Goals as goal

pub returns-then-is_cell : goal.returns-then-is_cell
returns-then-is_cell c = cell_is_no_bad_node c.args.graph.now c.args.label.now (sym c.requires.role ∙ c.is_cell.ensures.0 c.if-is_cell.true)

pub returns : goal.returns
returns c =
    let no_cell : c.args.role ≡ role.List → ⊥ = λ e. both_ways c.is_cell.result c.if-is_cell.false (c.is_cell.ensures.1 e) in
    node_is_bad c.args.graph.now c.args.label.now c.args.role c.is_formed.result _ c.requires.role no_cell
    (c.is_formed.ensures c.args.graph.now (Blank c.args.label.now)
    (record { table = c.requires.table; lengths_are = c.requires.lengths; role = c.requires.role; about = c.in_ok-triples.ensures }) no_cell) refl
