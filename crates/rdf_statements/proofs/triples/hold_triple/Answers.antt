use Rattle.std.proofs.Common.{◌∷◌, [], IfErr, IfOk, IfSome, IsNone, refl, subst, sym, ◌∙◌}
use Rattle.std.proofs.lemmas.Option.{same_Some}
use Rattle.rdf_meaning.specs.Denotation.{of_triple}
use Rattle.rdf_meaning.specs.Statements.{AreAxioms, IsAxiomOf}
use Rattle.tree_stores.specs.Stores.{StandFor}
use Rattle.rdf_annotations.proofs.AnnotationLaws.{all_have_sets}
use Rattle.rdf_annotations.specs.Annotations.{IsFaultOfSome}
use Rattle.rdf_statements.specs.Forms.{IsAxiomForm}
use Rattle.rdf_statements.specs.Holding.{IsOfForm, StandForSome}
use Rattle.rdf_statements.proofs.Adding.{some_variant, triple_of_form, triple_stands}
use Rattle.rdf_statements.proofs.Faults.{fault_of_some}
use Rattle.rdf_statements.proofs.HoldingKids.{err_more, ok_more}
use Rattle.rdf_statements.proofs.Standing.{form_has}
use Rattle.rdf_statements.proofs.triples.hold_triple.Goals as goal

pub variants-requires-clause-known : goal.variants-requires-clause-known
variants-requires-clause-known g c = λ t _.
    let known = c.args.known.now in
    all_have_sets known.annotated.reading.graph.now known.annotated.reading.roles.now known.sets.now.of_nodes.items c.requires.known.sets.all t

pub unreachable-requires : goal.unreachable-requires
unreachable-requires g c =
    let reading = c.args.known.now.annotated.reading in
    let u = c.at.result.now in
    let is = c.requires.known.axioms.triples u (c.requires.main u c.at.ensures.at) in
    c.in_ok-form.ensures.none c.requires.known.annotated.reading.formed (subst IsNone (sym c.in_default.is) refl) is.tag is.kids is.said

pub hold_form-requires-clause-trees : goal.hold_form-requires-clause-trees
hold_form-requires-clause-trees g c =
    let reading = c.args.known.now.annotated.reading in
    let graph = reading.graph.now in
    let kinds = reading.kinds.now in
    let roles = reading.roles.now in
    let bearer = of_triple c.at.result.now in
    let form = subst (λ f. IfSome f (IsAxiomForm graph kinds roles bearer)) c.in-Some.is c.in_ok-form.ensures.form in
    form_has graph kinds roles (g.S.TreeStore.stands c.args.store.now) c.args.known.now.ids.now c.requires.known.numbered c.requires.known.all bearer c.in-Some.form form

pub hold_form-requires-clause-sets : goal.hold_form-requires-clause-sets
hold_form-requires-clause-sets g c =
    let v = c.in_ok-sets.ensures c.at.result.now c.at.ensures.at in
    record { trees = v.sets; stand = subst (StandFor (g.S.TreeStore.stands c.args.store.now) v.sets) (sym c.deref.ensures.value) v.stand }

pub returns-clause-held : goal.returns-clause-held
returns-clause-held g c = λ t at.
    let stands = g.S.TreeStore.stands in
    let reading = c.args.known.now.annotated.reading in
    let graph = reading.graph.now in
    let kinds = reading.kinds.now in
    let roles = reading.roles.now in
    let u = c.at.result.now in
    let same = same_Some u t (sym c.at.ensures.at ∙ at) in
    let form = subst (λ f. IfSome f (IsAxiomForm graph kinds roles (of_triple u))) c.in-Some.is c.in_ok-form.ensures.form in
    let v = c.in_ok-sets.ensures u c.at.ensures.at in
    let stand = subst (StandFor (stands c.args.store.now) v.sets) (sym c.deref.ensures.value) v.stand in
    subst (λ w. IfOk c.hold_form.result (λ ns. StandForSome (stands c.hold_form.new.store) (AreAxioms graph kinds (w ∷ [])) ns.items)) same
    (ok_more (λ ns s. triple_stands graph kinds (stands c.hold_form.new.store) roles c.in-Some.form u v.sets ns.items form v.variants s) c.hold_form.result
    (c.hold_form.ensures.held v.sets stand))

pub returns-clause-fault : goal.returns-clause-fault
returns-clause-fault g c = λ t at.
    let stands = g.S.TreeStore.stands in
    let reading = c.args.known.now.annotated.reading in
    let graph = reading.graph.now in
    let kinds = reading.kinds.now in
    let roles = reading.roles.now in
    let u = c.at.result.now in
    let same = same_Some u t (sym c.at.ensures.at ∙ at) in
    let form = subst (λ f. IfSome f (IsAxiomForm graph kinds roles (of_triple u))) c.in-Some.is c.in_ok-form.ensures.form in
    let v = c.in_ok-sets.ensures u c.at.ensures.at in
    let stand = subst (StandFor (stands c.args.store.now) v.sets) (sym c.deref.ensures.value) v.stand in
    let some = some_variant graph kinds u v.sets v.variants in
    subst (λ w. IfErr c.hold_form.result (IsFaultOfSome (IsAxiomOf graph kinds w))) same
    (err_more
    (λ f h. fault_of_some (IsOfForm graph kinds roles c.in-Some.form v.sets) (IsAxiomOf graph kinds u)
    (triple_of_form graph kinds roles c.in-Some.form u v.sets form v.variants) f h)
    c.hold_form.result (c.hold_form.ensures.fault v.sets some.0 stand some.1))
