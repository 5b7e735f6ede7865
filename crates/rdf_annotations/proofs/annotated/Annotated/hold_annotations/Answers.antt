use Rattle.std.specs.Prelude.{◌≡◌, ◌<◌, ℕ, length, option_map}
use Rattle.std.proofs.Common.{ap, arith, subst, sym, ◌∙◌}
use Rattle.std.proofs.lemmas.Option.{get_or_from_slice_get, same_Some, slice_get_within}
use Rattle.rdf_graph.specs.declared.triple.Triple.{Triple}
use Rattle.rdf_annotations.proofs.AnnotationLaws.{some_sets_kept}
use Rattle.rdf_annotations.proofs.Saying.{AnnotatesUpTo, all_annotated, next_annotated, none_annotated, there}
use Rattle.rdf_annotations.proofs.annotated.Annotated.hold_annotations.Goals as goal

pub loop-place-init : goal.loop-place-init
loop-place-init g c =
    let r = c.args.self.now.reading in
    none_annotated r.graph.now r.kinds.now r.header.now (g.S.TreeStore.stands c.args.store.now) _ _ c.new-annotations.ensures.items

pub add_at-requires-clause-sets : goal.add_at-requires-clause-sets
add_at-requires-clause-sets g c =
    let r = c.args.self.now.reading in
    some_sets_kept (g.S.TreeStore.stands c.args.store.now) (g.S.TreeStore.stands c.loop-place.store) c.loop-place.invariant.kept r.graph.now r.kinds.now r.roles.now
    c.args.sets.now.of_nodes.items c.args.sets.now.empty c.requires.sets

pub add_at-requires-clause-known : goal.add_at-requires-clause-known
add_at-requires-clause-known g c = λ t at annotates.
    let r = c.args.self.now.reading in
    let place = c.loop-place.place in
    let begun = c.loop-place.invariant.begun in
    let before : place < c.of_subject-start.result.1 = omega arith in
    let subject = (c.of_subject-start.ensures.among place).1 (begun, before) in
    c.requires.known t (place, slice_get_within r.graph.now place t at, get_or_from_slice_get r.graph.now place t t at)
    (same_Some t.subject c.args.node.now (sym (ap (option_map (λ (u : Triple). u.subject)) at) ∙ subject)) annotates

pub loop-place-preserved : goal.loop-place-preserved
loop-place-preserved g c =
    let r = c.args.self.now.reading in
    let within : c.loop-place.place < length r.graph.now = omega arith in
    let t = there r.graph.now c.loop-place.place within in
    next_annotated r.graph.now r.kinds.now r.header.now (g.S.TreeStore.stands c.args.store.now) (g.S.TreeStore.stands c.loop-place.store) (g.S.TreeStore.stands c.add_at.new.store)
    _ c.loop-place.place t.0 c.loop-place.annotations.items c.add_at.new.annotations.items t.1 c.loop-place.invariant (c.in_ok-add_at.ensures.added t.0 t.1) c.add_at.ensures.kept

pub returns-clause-annotations : goal.returns-clause-annotations
returns-clause-annotations g c =
    let r = c.args.self.now.reading in
    let begun = c.loop-place.invariant.begun in
    let end : c.loop-place.place ≡ c.of_subject-start.result.1 = omega (arith, begun) in
    all_annotated r.graph.now r.kinds.now r.header.now (g.S.TreeStore.stands c.args.store.now) (g.S.TreeStore.stands c.loop-place.store) c.of_subject-start.result.0 c.of_subject-start.result.1
    c.args.node.now c.loop-place.annotations.items c.of_subject-start.ensures.among
    (subst (λ (place : ℕ). AnnotatesUpTo r.graph.now r.kinds.now r.header.now (g.S.TreeStore.stands c.args.store.now) (g.S.TreeStore.stands c.loop-place.store) c.of_subject-start.result.0 place c.loop-place.annotations.items) end
    c.loop-place.invariant)
