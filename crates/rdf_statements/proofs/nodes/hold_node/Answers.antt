use Rattle.std.proofs.Common.{◌∷◌, [], IfSome, IsNone, refl, subst, sym}
use Rattle.owl_list.proofs.AscendingLaws.{in_head}
use Rattle.rdf_graph.specs.declared.term.Term.TheVariants.{Blank}
use Rattle.rdf_meaning.specs.Denotation.{of_node}
use Rattle.rdf_meaning.specs.Statements.{IsAxiomOfNode, notes, IsNotedTree}
use Rattle.tree_stores.specs.Stores.{StandFor}
use Rattle.rdf_statements.specs.Forms.{IsAxiomForm}
use Rattle.rdf_statements.specs.GraphTrees.{IsTreeOf, of_annotation}
use Rattle.rdf_statements.specs.Holding.{IsOfForm}
use Rattle.owl_characters.proofs.ResultLaws.{passed}
use Rattle.rdf_statements.proofs.Adding.{node_fault, node_of_form, node_stands}
use Rattle.rdf_statements.proofs.Faults.{fault_of_some}
use Rattle.rdf_statements.proofs.HoldingKids.{err_more, numbered_still, ok_more}
use Rattle.rdf_statements.proofs.Standing.{form_has}
use Rattle.rdf_statements.proofs.nodes.hold_node.Goals as goal

pub returns-in_err-sets-clause-fault : goal.returns-in_err-sets-clause-fault
returns-in_err-sets-clause-fault g c =
    let reading = c.args.known.now.annotated.reading in
    let graph = reading.graph.now in
    let kinds = reading.kinds.now in
    let header = reading.header.now in
    passed c.from_residual.result c.in_err-sets.field-0.0 _ c.from_residual.ensures.1
    (fault_of_some (IsNotedTree graph kinds header) (IsTreeOf graph kinds header) (λ t is. of_annotation t is) c.in_err-sets.field-0.0 c.in_err-sets.ensures.fault)

pub unreachable-requires : goal.unreachable-requires
unreachable-requires g c =
    let is = c.requires.known.axioms.nodes (Blank c.args.label.now) c.requires.main in
    c.in_ok-form.ensures.none c.requires.known.annotated.reading.formed (subst IsNone (sym c.in_default.is) refl) is.tag is.kids is.said

pub hold_form-requires-clause-numbered : goal.hold_form-requires-clause-numbered
hold_form-requires-clause-numbered g c =
    let stands = g.S.TreeStore.stands in
    let reading = c.args.known.now.annotated.reading in
    numbered_still reading.graph.now reading.kinds.now reading.roles.now (stands c.args.store.now) (stands c.hold_only_set.new.store) c.hold_only_set.ensures.kept
    c.args.known.now.ids.now c.requires.known.numbered

pub hold_form-requires-clause-trees : goal.hold_form-requires-clause-trees
hold_form-requires-clause-trees g c =
    let reading = c.args.known.now.annotated.reading in
    let graph = reading.graph.now in
    let kinds = reading.kinds.now in
    let roles = reading.roles.now in
    let bearer = of_node (Blank c.args.label.now) in
    let form = subst (λ f. IfSome f (IsAxiomForm graph kinds roles bearer)) c.in-Some.is c.in_ok-form.ensures.form in
    form_has graph kinds roles (g.S.TreeStore.stands c.args.store.now) c.args.known.now.ids.now c.requires.known.numbered c.requires.known.all bearer c.in-Some.form form

pub hold_form-requires-clause-sets : goal.hold_form-requires-clause-sets
hold_form-requires-clause-sets g c =
    let s = c.in_ok-sets.ensures.held in
    let sets = notes s.annotations ∷ [] in
    record { trees = sets; stand = subst (StandFor (g.S.TreeStore.stands c.hold_only_set.new.store) sets) (sym c.deref.ensures.value) s.stand }

pub returns-clause-held : goal.returns-clause-held
returns-clause-held g c =
    let stands = g.S.TreeStore.stands in
    let reading = c.args.known.now.annotated.reading in
    let graph = reading.graph.now in
    let kinds = reading.kinds.now in
    let roles = reading.roles.now in
    let x = Blank c.args.label.now in
    let form = subst (λ f. IfSome f (IsAxiomForm graph kinds roles (of_node x))) c.in-Some.is c.in_ok-form.ensures.form in
    let s = c.in_ok-sets.ensures.held in
    let sets = notes s.annotations ∷ [] in
    let stand = subst (StandFor (stands c.hold_only_set.new.store) sets) (sym c.deref.ensures.value) s.stand in
    ok_more (λ ns held. node_stands graph kinds (stands c.hold_form.new.store) roles c.in-Some.form x s.annotations ns.items form s.annotates held) c.hold_form.result
    (c.hold_form.ensures.held sets stand)

pub returns-clause-fault : goal.returns-clause-fault
returns-clause-fault g c =
    let stands = g.S.TreeStore.stands in
    let reading = c.args.known.now.annotated.reading in
    let graph = reading.graph.now in
    let kinds = reading.kinds.now in
    let roles = reading.roles.now in
    let x = Blank c.args.label.now in
    let form = subst (λ f. IfSome f (IsAxiomForm graph kinds roles (of_node x))) c.in-Some.is c.in_ok-form.ensures.form in
    let s = c.in_ok-sets.ensures.held in
    let sets = notes s.annotations ∷ [] in
    let stand = subst (StandFor (stands c.hold_only_set.new.store) sets) (sym c.deref.ensures.value) s.stand in
    err_more
    (λ f h. node_fault graph kinds reading.header.now x c.requires.main f
    (fault_of_some (IsOfForm graph kinds roles c.in-Some.form sets) (IsAxiomOfNode graph kinds x)
    (node_of_form graph kinds roles c.in-Some.form x s.annotations form s.annotates) f h))
    c.hold_form.result (c.hold_form.ensures.fault sets (notes s.annotations) stand (in_head (notes s.annotations) []))
