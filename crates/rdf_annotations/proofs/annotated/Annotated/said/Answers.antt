use Rattle.tree_stores.proofs.StoreLaws.{keeps_more}
use Rattle.rdf_annotations.proofs.AnnotationLaws.{some_sets_kept}
use Rattle.rdf_annotations.proofs.annotated.Annotated.said.Goals as goal

pub hold_property-requires : goal.hold_property-requires
hold_property-requires g c = (c.requires.typed c.at-triple.result.now c.at-triple.ensures.at).property

pub hold_value-requires : goal.hold_value-requires
hold_value-requires g c = (c.requires.typed c.at-triple.result.now c.at-triple.ensures.at).value

pub variants-requires-clause-sets : goal.variants-requires-clause-sets
variants-requires-clause-sets g c =
    let r = c.args.self.now.reading in
    let old = g.S.TreeStore.stands c.args.store.now in
    let mid = g.S.TreeStore.stands c.hold_property.new.store in
    let new = g.S.TreeStore.stands c.hold_value.new.store in
    some_sets_kept old new (keeps_more old mid new c.hold_property.ensures.kept c.hold_value.ensures.kept) r.graph.now r.kinds.now r.roles.now
    c.args.sets.now.of_nodes.items c.args.sets.now.empty c.requires.sets
