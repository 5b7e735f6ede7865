use Rattle.std.proofs.Common.{rules, ◌≡◌, ◌∷◌, ◌++◌, [], subst, sym}
use Rattle.std.proofs.lemmas.List.{nil_from_length}
use Rattle.owl_characters.proofs.ResultLaws.{passed}
use Rattle.rdf_statements.proofs.Sets.{AreSoFar, all_held, next_fault, next_standing, one_more}
use Rattle.rdf_statements.proofs.axioms.hold_axioms.Goals as goal

pub hold_axiom-requires : goal.hold_axiom-requires
hold_axiom-requires g c =
    let stands = g.S.TreeStore.stands in
    next_standing (stands c.args.store.now) (stands c.loop-set.store) (stands c.loop-set.store) c.args.tag c.args.sets.now c.args.kids.now c.loop-set.axioms.items c.loop-set.rest.now
    c.in-Some.set.now c.in-Some.behind.now c.loop-set.invariant c.in-Some.ensures.cases.0 c.requires.sets c.requires.kids

pub returns-in_err-axiom-clause-fault : goal.returns-in_err-axiom-clause-fault
returns-in_err-axiom-clause-fault g c = λ ss ts hs hk.
    let stands = g.S.TreeStore.stands in
    passed c.from_residual.result c.in_err-axiom.field-0.0 _ c.from_residual.ensures.1
    (next_fault (stands c.args.store.now) (stands c.loop-set.store) (stands c.loop-set.store) c.args.tag c.args.sets.now c.args.kids.now c.loop-set.axioms.items c.loop-set.rest.now
    c.in-Some.set.now c.in-Some.behind.now c.loop-set.invariant c.in-Some.ensures.cases.0 c.in_err-axiom.field-0.0 c.in_err-axiom.ensures.fault ss ts hs hk)

pub loop-set-preserved : goal.loop-set-preserved
loop-set-preserved g c =
    let stands = g.S.TreeStore.stands in
    let pushed : c.push.new.self.items ≡ c.loop-set.axioms.items ++ c.in_ok-axiom.axiom ∷ [] = search rules in
    subst (λ items. AreSoFar (stands c.args.store.now) (stands c.hold_axiom.new.store) c.args.tag c.args.sets.now c.args.kids.now items c.in-Some.behind.now) (sym pushed)
    (one_more (stands c.args.store.now) (stands c.loop-set.store) (stands c.hold_axiom.new.store) c.args.tag c.args.sets.now c.args.kids.now c.loop-set.axioms.items c.loop-set.rest.now
    c.in-Some.set.now c.in-Some.behind.now c.loop-set.invariant c.in-Some.ensures.cases.0 c.in_ok-axiom.axiom c.hold_axiom.ensures.kept c.in_ok-axiom.ensures.held)

pub returns-clause-held : goal.returns-clause-held
returns-clause-held g c =
    let stands = g.S.TreeStore.stands in
    all_held (stands c.args.store.now) (stands c.loop-set.store) c.args.tag c.args.sets.now c.args.kids.now c.loop-set.axioms.items c.loop-set.rest.now
    c.loop-set.invariant (nil_from_length c.loop-set.rest.now c.in_default.ensures.cases)
