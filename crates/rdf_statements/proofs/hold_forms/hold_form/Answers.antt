use Rattle.std.proofs.Common.{subst, sym}
use Rattle.tree_stores.specs.Stores.{StandFor}
use Rattle.tree_stores.proofs.StoreLaws.{stand_still}
use Rattle.rdf_statements.specs.Forms.{AllKidsMean}
use Rattle.rdf_statements.specs.Holding.{IsOfKids}
use Rattle.rdf_annotations.specs.Annotations.{IsFaultOfSome}
use Rattle.owl_characters.proofs.ResultLaws.{passed}
use Rattle.rdf_statements.proofs.HoldingKids.{err_more, form_fault, form_has_fault, form_stands, ok_more, standing_still}
use Rattle.rdf_statements.proofs.hold_forms.hold_form.Goals as goal

pub returns-in_err-kids-clause-fault : goal.returns-in_err-kids-clause-fault
returns-in_err-kids-clause-fault g c = λ ss s _ m.
    let graph = c.args.source.now.graph.now in
    let kinds = c.args.source.now.kinds.now in
    let roles = c.args.source.now.roles.now in
    passed c.from_residual.result c.in_err-kids.field-0.0 _ c.from_residual.ensures.1
    (form_has_fault graph kinds roles c.args.form.now ss s m c.in_err-kids.field-0.0
    (subst (λ ks. IsFaultOfSome (IsOfKids graph kinds roles ks) c.in_err-kids.field-0.0) c.deref.ensures.value c.in_err-kids.ensures.fault))

pub hold_axioms-requires-clause-sets : goal.hold_axioms-requires-clause-sets
hold_axioms-requires-clause-sets g c =
    let stands = g.S.TreeStore.stands in
    standing_still (stands c.args.store.now) (stands c.hold_kids.new.store) c.hold_kids.ensures.kept c.args.sets.now c.requires.sets

pub returns-clause-held : goal.returns-clause-held
returns-clause-held g c = λ ss hs.
    let stands = g.S.TreeStore.stands in
    let graph = c.args.source.now.graph.now in
    let kinds = c.args.source.now.kinds.now in
    let roles = c.args.source.now.roles.now in
    let s = c.in_ok-kids.ensures.held in
    let mean = subst (λ ks. AllKidsMean graph kinds roles ks s.trees) c.deref.ensures.value s.mean in
    ok_more (λ ns stand. form_stands graph kinds roles (stands c.hold_axioms.new.store) c.args.form.now ss s.trees ns.items mean stand) c.hold_axioms.result
    (c.hold_axioms.ensures.held ss s.trees (stand_still (stands c.args.store.now) (stands c.hold_kids.new.store) c.hold_kids.ensures.kept ss c.args.sets.now hs) (subst (StandFor (stands c.hold_kids.new.store) s.trees) (sym c.deref-2.ensures.value) s.stand))

pub returns-clause-fault : goal.returns-clause-fault
returns-clause-fault g c = λ ss _ hs _.
    let stands = g.S.TreeStore.stands in
    let graph = c.args.source.now.graph.now in
    let kinds = c.args.source.now.kinds.now in
    let roles = c.args.source.now.roles.now in
    let s = c.in_ok-kids.ensures.held in
    let mean = subst (λ ks. AllKidsMean graph kinds roles ks s.trees) c.deref.ensures.value s.mean in
    err_more (λ f h. form_fault graph kinds roles c.args.form.now ss s.trees mean f h) c.hold_axioms.result
    (c.hold_axioms.ensures.fault ss s.trees (stand_still (stands c.args.store.now) (stands c.hold_kids.new.store) c.hold_kids.ensures.kept ss c.args.sets.now hs) (subst (StandFor (stands c.hold_kids.new.store) s.trees) (sym c.deref-2.ensures.value) s.stand))
