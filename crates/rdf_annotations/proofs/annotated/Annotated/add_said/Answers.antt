use Rattle.std.proofs.Common.{rules, ◌≡◌, ◌++◌, ◌∷◌, [], subst, sym}
use Rattle.std.proofs.lemmas.List.{nil_from_length}
use Rattle.owl_characters.proofs.ResultLaws.{passed}
use Rattle.rdf_annotations.proofs.Saying.{IsHolding, all_held, next_can, next_fault, next_held, none_held}
use Rattle.rdf_annotations.proofs.annotated.Annotated.add_said.Goals as goal

pub loop-variant-init : goal.loop-variant-init
loop-variant-init g c =
    let r = c.args.self.now.reading in
    let old = g.S.TreeStore.stands c.args.store.now in
    subst (λ rest. IsHolding old old r.graph.now r.kinds.now c.args._triple.now c.args.said.now rest c.args.annotations.now.items c.args.annotations.now.items)
    (sym c.as_slice-rest.ensures.value)
    (none_held r.graph.now r.kinds.now old old c.args._triple.now c.args.said.now c.args.annotations.now.items c.requires.said)

pub hold_annotation-requires : goal.hold_annotation-requires
hold_annotation-requires g c =
    let r = c.args.self.now.reading in
    next_can r.graph.now r.kinds.now (g.S.TreeStore.stands c.args.store.now) (g.S.TreeStore.stands c.loop-variant.store) c.args._triple.now c.args.said.now
    c.loop-variant.rest.now c.args.annotations.now.items c.loop-variant.annotations.items c.in-Some.behind.now c.in-Some.variant.now c.loop-variant.invariant c.in-Some.ensures.cases.0

pub returns-in_err-annotation-clause-fault : goal.returns-in_err-annotation-clause-fault
returns-in_err-annotation-clause-fault g c =
    let r = c.args.self.now.reading in
    passed c.from_residual.result c.in_err-annotation.field-0.0 _ c.from_residual.ensures.1
    (next_fault r.graph.now r.kinds.now (g.S.TreeStore.stands c.args.store.now) (g.S.TreeStore.stands c.loop-variant.store) c.args._triple.now c.args.said.now r.header.now
    c.loop-variant.rest.now c.args.annotations.now.items c.loop-variant.annotations.items c.in-Some.behind.now c.in-Some.variant.now c.loop-variant.invariant c.in-Some.ensures.cases.0
    c.requires.annotation.0 c.requires.annotation.1 c.in_err-annotation.field-0.0 c.in_err-annotation.ensures.fault)

pub loop-variant-preserved : goal.loop-variant-preserved
loop-variant-preserved g c =
    let r = c.args.self.now.reading in
    let old = g.S.TreeStore.stands c.args.store.now in
    let new = g.S.TreeStore.stands c.hold_annotation.new.store in
    let items : c.push.new.self.items ≡ c.loop-variant.annotations.items ++ c.in_ok-annotation.annotation ∷ [] = search rules in
    subst (λ now. IsHolding old new r.graph.now r.kinds.now c.args._triple.now c.args.said.now c.in-Some.behind.now c.args.annotations.now.items now) (sym items)
    (next_held r.graph.now r.kinds.now old (g.S.TreeStore.stands c.loop-variant.store) c.args._triple.now c.args.said.now new
    c.loop-variant.rest.now c.args.annotations.now.items c.loop-variant.annotations.items c.in-Some.behind.now c.in-Some.variant.now c.in_ok-annotation.annotation
    c.loop-variant.invariant c.in-Some.ensures.cases.0 c.in_ok-annotation.ensures.held c.hold_annotation.ensures.kept)

pub returns-clause-added : goal.returns-clause-added
returns-clause-added g c =
    let r = c.args.self.now.reading in
    all_held r.graph.now r.kinds.now (g.S.TreeStore.stands c.args.store.now) (g.S.TreeStore.stands c.loop-variant.store) c.args._triple.now c.args.said.now
    c.loop-variant.rest.now c.args.annotations.now.items c.loop-variant.annotations.items (nil_from_length c.loop-variant.rest.now c.in_default.ensures.cases) c.loop-variant.invariant
