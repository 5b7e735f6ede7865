use Rattle.std.proofs.Common.{rules, ◌≡◌, ap, sym, subst, ◌∙◌, IfOk}
use Rattle.rdf_meaning.specs.declared.role.Role.TheVariants as role
use Rattle.rdf_meaning.specs.Nodes.{is_role, role_of}
use Rattle.rdf_rows.specs.Chosen.{facets, the_only}
use Rattle.rdf_nodes.specs.Operands.{IsFound}
use Rattle.rdf_nodes.proofs.Steps.{facet_is, no_facet_node, no_node, no_only_facet}
use Rattle.rdf_nodes.proofs.source.Source.facet.Goals as goal

pub returns-in-Some : goal.returns-in-Some
returns-in-Some c =
    let g = c.args.self.now.graph.now in
    let same : c.role.result ≡ role.Facet = search rules in
    let is = ap (role_of g) c.in-Blank.is ∙ sym (c.role.ensures g c.requires) ∙ same in
    let only = sym (ap (λ ts. the_only (facets ts)) (sym c.about.ensures) ∙ sym (c.in-Some.ensures)) in
    subst (λ w. IfOk c.facet_of.result (IsFound w))
    (sym (facet_is g c.args.term.now c.in-Some.triple.now (ap (is_role role.Facet) is) (sym only))) c.facet_of.ensures

pub returns-in_default : goal.returns-in_default
returns-in_default c = no_node c.args.self.now.graph.now c.args.term.now c.in_default.not-Blank

pub returns-then-ne : goal.returns-then-ne
returns-then-ne c =
    let g = c.args.self.now.graph.now in
    let other : c.role.result ≡ role.Facet → ⊥ = search rules in
    no_facet_node g c.args.term.now (λ e. other (c.role.ensures g c.requires ∙ ap (role_of g) (sym c.in-Blank.is) ∙ e))

pub returns-in-None : goal.returns-in-None
returns-in-None c =
    no_only_facet c.args.self.now.graph.now c.args.term.now (c.in-None.ensures ∙ ap (λ ts. the_only (facets ts)) c.about.ensures)
