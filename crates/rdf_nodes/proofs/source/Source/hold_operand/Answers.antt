use Rattle.std.proofs.Common.{◌≡◌, Some, slice_get, length, refl, ap, sym, ◌∙◌}
use Rattle.std.proofs.lemmas.Bool.{ltb-true}
use Rattle.std.proofs.lemmas.Option.{slice_get_read}
use Rattle.rdf_nodes.specs.declared.form.Operand.TheVariants as operand
use Rattle.rdf_nodes.proofs.Holding.{facet_stands, node_stands}
use Rattle.rdf_nodes.proofs.source.Source.hold_operand.Goals as goal

pub returns-in_ok-copy-in-Facet-clause-held : goal.returns-in_ok-copy-in-Facet-clause-held
returns-in_ok-copy-in-Facet-clause-held g c =
    facet_stands c.args.self.now.graph.now c.args.self.now.kinds.now c.args.self.now.roles.now (g.S.TreeStore.stands c.hold_facet.new.store) c.hold_facet.result c.args.operand.now
    c.in_ok-facet-in-Facet.facet c.in_ok-copy-in-Facet.field-0
    (c.in-Facet.is ∙ (λ i. operand.Facet (sym c.in_ok-facet-in-Facet.ensures i) (sym c.in_ok-copy-in-Facet.ensures i))) c.hold_facet.ensures.held

pub returns-in-Some-Some-clause-held : goal.returns-in-Some-Some-clause-held
returns-in-Some-Some-clause-held g c =
    let at : slice_get c.args.ids.now c.in-Node.number ≡ Some (Some c.in-Some-Some.id) =
    let found = c.in-Some-Some.ensures.lookup in
    slice_get_read c.args.ids.now (length c.args.ids.now) c.in-Node.number c.in-Some-Some.field-0.now refl (ltb-true c.in-Node.number (length c.args.ids.now) (sym found.0)) found.1
    ∙ ap Some c.in-Some-Some.field-0-is in
    node_stands c.args.self.now.graph.now c.args.self.now.kinds.now c.args.self.now.roles.now (g.S.TreeStore.stands c.args.store.now) c.args.ids.now c.args.operand.now c.in-Node.number
    c.in-Some-Some.id c.requires.numbered c.in-Node.is at
