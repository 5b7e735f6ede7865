use Rattle.std.proofs.Common.{OnOk, IfErr, [], ◌+◌, ap, drop, length, map, subst, ◌∙◌}
use Rattle.owl_characters.proofs.ResultLaws.{passed}
use Rattle.man_resolve.specs.Building.{AddsTree, AddsTrees, IsFaultOf, built, leaves}
use Rattle.man_resolve.specs.declared.shape.Places.{Places}
use Rattle.man_resolve.specs.Expressions.{all_of, by_property, placed, knows, meant, numbered, stem}
use Rattle.man_resolve.proofs.BuildingLaws.{all_left, node_added, stem_added}
use Rattle.man_resolve.proofs.PartLaws.{all_added, counted, each, each_but, next_left, numbered_added, of_form, part_failed, property_added, taken}
use Rattle.man_resolve.proofs.expressions.+meaning.Goals as goal

pub mean-returns-in-Form-clause-added : goal.mean-returns-in-Form-clause-added
mean-returns-in-Form-clause-added t c =
    subst (λ w. OnOk c.mean_shape.result (AddsTree c.args.steps.now.items c.mean_shape.new.steps.items w))
    (of_form (knows c.args.kinds.now) c.args.place c.args.raw.now c.raw.inside.at c.raw.inside.what c.in-Form.form c.shape_of-shape.result c.raw.inside.parts.items c.deref.result.now c.raw.view_is c.in-Form.is c.shape_of-shape.ensures c.deref.ensures.value)
    c.mean_shape.ensures.added

pub mean-returns-in-Form-clause-fault : goal.mean-returns-in-Form-clause-fault
mean-returns-in-Form-clause-fault t c =
    subst (λ w. IfErr c.mean_shape.result (IsFaultOf w))
    (of_form (knows c.args.kinds.now) c.args.place c.args.raw.now c.raw.inside.at c.raw.inside.what c.in-Form.form c.shape_of-shape.result c.raw.inside.parts.items c.deref.result.now c.raw.view_is c.in-Form.is c.shape_of-shape.ensures c.deref.ensures.value)
    c.mean_shape.ensures.fault

pub mean_by_property-returns-clause-added : goal.mean_by_property-returns-clause-added
mean_by_property-returns-clause-added t c =
    property_added (knows c.args.kinds.now) c.args.by (leaves c.args.between) c.args.passed c.args.at c.args.steps.now.items c.mean.new.steps.items c.add_leaf.new.steps.items c.mean_each.new.steps.items c.of-tag.result.0 c.of-tag.result.1 c.in_ok-given.given c.in_ok-others.others c.ends_in_data.result c.args.parts.now c.in-Some.property.now c.in-Some.ensures.value c.in_ok-mean.ensures.added (λ front t e. c.ends_in_data.ensures front t (ap built c.deref.ensures.value ∙ e)) c.of-tag.ensures.tag c.of-tag.ensures.place c.in_ok-given.ensures.added c.in_ok-given.ensures.count
    (subst (λ (q : Places). AddsTrees c.add_leaf.new.steps.items c.mean_each.new.steps.items c.in_ok-others.others (all_of (placed q.first q.second q.others (drop c.args.passed (map (meant (knows c.args.kinds.now)) c.args.parts.now))))) c.all.ensures c.in_ok-others.ensures.added)

pub mean_cardinality-returns-clause-added : goal.mean_cardinality-returns-clause-added
mean_cardinality-returns-clause-added t c =
    taken c.args.steps.now.items c.add.new.steps.items _ c.args.at (numbered c.args.by c.args.at (map (meant (knows c.args.kinds.now)) c.args.parts.now))
    (counted (meant (knows c.args.kinds.now)) c.args.by.object_tag c.args.parts.now c.takes.result c.takes.ensures c.if-not-takes.false)
    (node_added c.args.steps.now.items c.mean_by_property.new.steps.items c.add.new.steps.items c.in_ok-tag.tag (c.in_ok-tag.count + 1) (numbered c.args.by c.args.at (map (meant (knows c.args.kinds.now)) c.args.parts.now))
    (numbered_added (knows c.args.kinds.now) c.args.by c.args.at c.args.parts.now c.in-Some.number.now c.args.steps.now.items c.mean.new.steps.items c.mean_by_property.new.steps.items c.in_ok-tag.tag c.in_ok-tag.count c.in-Some.ensures.lookup.3.0 c.in-Some.ensures.lookup.1 c.in_ok-mean.ensures.added c.in_ok-tag.ensures.added)
    c.in_ok-add.ensures)

pub mean_each-loop-part-init : goal.mean_each-loop-part-init
mean_each-loop-part-init t c = all_left c.args.steps.now.items (each (knows c.args.kinds.now) c.args.places.first c.args.places.second c.args.places.others c.all_but-rest.result.now)

pub mean_each-returns-in_err-mean-clause-fault : goal.mean_each-returns-in_err-mean-clause-fault
mean_each-returns-in_err-mean-clause-fault t c =
    let ks = knows c.args.kinds.now in
    let ps = c.args.places in
    let rest = c.all_but-rest.result.now in
    let whole = each_but ks ps.first ps.second ps.others c.args.passed c.args.parts.now rest c.all_but-rest.ensures in
    passed c.from_residual.result c.in_err-mean.field-0.0 _ c.from_residual.ensures.1
    (subst (λ w. IsFaultOf w c.in_err-mean.field-0.0) whole
    (part_failed ks (each ks ps.first ps.second ps.others rest) c.loop-part.place c.loop-part.next ps.others rest c.loop-part.part-index c.part-item.result c.args.steps.now.items c.loop-part.steps.items c.loop-part-test.true c.part-item.is c.loop-part.invariant c.in_err-mean.field-0.0 c.in_err-mean.ensures.fault))

pub mean_each-loop-part-preserved : goal.mean_each-loop-part-preserved
mean_each-loop-part-preserved t c =
    let ks = knows c.args.kinds.now in
    let ps = c.args.places in
    let rest = c.all_but-rest.result.now in
    next_left ks (each ks ps.first ps.second ps.others rest) c.loop-part.place c.loop-part.next ps.others rest c.loop-part.part-index c.part-item.result c.args.steps.now.items c.loop-part.steps.items c.loop-part-test.true c.part-item.is c.loop-part.invariant c.mean.new.steps.items c.in_ok-mean.ensures.added

pub mean_each-returns-clause-added : goal.mean_each-returns-clause-added
mean_each-returns-clause-added t c =
    let ks = knows c.args.kinds.now in
    let ps = c.args.places in
    let rest = c.all_but-rest.result.now in
    let whole = each_but ks ps.first ps.second ps.others c.args.passed c.args.parts.now rest c.all_but-rest.ensures in
    subst (AddsTrees c.args.steps.now.items c.loop-part.steps.items (length rest)) whole
    (all_added ks ps.first ps.second ps.others c.loop-part.place c.loop-part.next ps.others rest c.loop-part.part-index c.args.steps.now.items c.loop-part.steps.items c.loop-part-test.false c.loop-part.invariant)

pub mean_over-returns-clause-added : goal.mean_over-returns-clause-added
mean_over-returns-clause-added t c =
    let r = stem c.args.tag (each (knows c.args.kinds.now) c.args.places.first c.args.places.second c.args.places.others c.args.parts.now) in
    taken c.args.steps.now.items c.add.new.steps.items _ c.args.at r
    (counted (meant (knows c.args.kinds.now)) c.args.tag c.args.parts.now c.takes.result c.takes.ensures c.if-not-takes.false)
    (node_added c.args.steps.now.items c.mean_each.new.steps.items c.add.new.steps.items c.args.tag c.in_ok-count.count r
    (stem_added c.args.steps.now.items c.mean_each.new.steps.items c.args.tag c.in_ok-count.count _ c.in_ok-count.ensures.added)
    c.in_ok-add.ensures)

pub mean_restriction-returns-clause-added : goal.mean_restriction-returns-clause-added
mean_restriction-returns-clause-added t c =
    let r = by_property c.args.by [] 1 c.args.at (map (meant (knows c.args.kinds.now)) c.args.parts.now) in
    taken c.args.steps.now.items c.add.new.steps.items _ c.args.at r
    (counted (meant (knows c.args.kinds.now)) c.args.by.object_tag c.args.parts.now c.takes.result c.takes.ensures c.if-not-takes.false)
    (node_added c.args.steps.now.items c.mean_by_property.new.steps.items c.add.new.steps.items c.in_ok-tag.tag c.in_ok-tag.count r c.in_ok-tag.ensures.added c.in_ok-add.ensures)
