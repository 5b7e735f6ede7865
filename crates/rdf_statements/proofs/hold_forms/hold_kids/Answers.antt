use Rattle.std.proofs.Common.{rules, ◌≡◌, ◌∷◌, ◌++◌, [], subst, sym}
use Rattle.owl_characters.proofs.ResultLaws.{passed}
use Rattle.rdf_statements.proofs.HoldingKids.{AreKidsHeld, kid_fault, more_kids_held, next_has, numbered_still}
use Rattle.rdf_statements.proofs.hold_forms.hold_kids.Goals as goal

pub hold_kid-requires-clause-numbered : goal.hold_kid-requires-clause-numbered
hold_kid-requires-clause-numbered g c =
    let stands = g.S.TreeStore.stands in
    numbered_still c.args.source.now.graph.now c.args.source.now.kinds.now c.args.source.now.roles.now (stands c.args.store.now) (stands c.loop-kid.store)
    c.loop-kid.invariant.kept c.args.ids.now c.requires.numbered

pub hold_kid-requires-clause-tree : goal.hold_kid-requires-clause-tree
hold_kid-requires-clause-tree g c =
    let stands = g.S.TreeStore.stands in
    next_has c.args.source.now.graph.now c.args.source.now.kinds.now c.args.source.now.roles.now (stands c.args.store.now) c.args.kids.now (stands c.loop-kid.store) c.loop-kid.numbers.items
    c.in-Some.kid.now c.loop-kid.rest.now c.in-Some.behind.now c.loop-kid.invariant c.in-Some.ensures.cases.0 c.requires.trees

pub returns-in_err-number-clause-fault : goal.returns-in_err-number-clause-fault
returns-in_err-number-clause-fault g c =
    let stands = g.S.TreeStore.stands in
    passed c.from_residual.result c.in_err-number.field-0.0 _ c.from_residual.ensures.1
    (kid_fault c.args.source.now.graph.now c.args.source.now.kinds.now c.args.source.now.roles.now (stands c.args.store.now) c.args.kids.now (stands c.loop-kid.store)
    c.loop-kid.numbers.items c.in-Some.kid.now c.loop-kid.rest.now c.in-Some.behind.now c.loop-kid.invariant c.in-Some.ensures.cases.0 c.requires.trees c.in_err-number.field-0.0
    c.in_err-number.ensures.fault)

pub loop-kid-preserved : goal.loop-kid-preserved
loop-kid-preserved g c =
    let stands = g.S.TreeStore.stands in
    let graph = c.args.source.now.graph.now in
    let kinds = c.args.source.now.kinds.now in
    let roles = c.args.source.now.roles.now in
    let pushed : c.push.new.self.items ≡ c.loop-kid.numbers.items ++ c.in_ok-number.number ∷ [] = search rules in
    subst (λ ns. AreKidsHeld graph kinds roles (stands c.args.store.now) c.args.kids.now (stands c.hold_kid.new.store) ns c.in-Some.behind.now) (sym pushed)
    (more_kids_held graph kinds roles (stands c.args.store.now) c.args.kids.now (stands c.loop-kid.store) (stands c.hold_kid.new.store) c.loop-kid.numbers.items
    c.in-Some.kid.now c.in_ok-number.number c.loop-kid.rest.now c.in-Some.behind.now c.loop-kid.invariant c.in-Some.ensures.cases.0 c.in_ok-number.ensures.held c.hold_kid.ensures.kept)
