use Rattle.std.proofs.Common.{◌<◌, ◌+◌, ℕ, List, ap, sym, ◌∙◌, subst}
use Rattle.std.specs.List.{AllByRecursion}
use Rattle.owl_arena.specs.Held.{AreHeld, trees_at}
use Rattle.owl_arena.specs.Shared.{heaviest}
use Rattle.owl_doc.specs.Documents.{ontology_of, weight_at}
use Rattle.owl_list.specs.Ascending.{AreApart}
use Rattle.owl_tree.specs.Ontologies.{IsAnnotation, IsAxiom, canonical_ontology}
use Rattle.rdf_normal.specs.Building.{document_with}
use Rattle.rdf_normal.specs.NormalForms.{unsettled_annotations, unsettled_axioms}
use Rattle.rdf_normal.specs.declared.fault.NormFault.TheVariants.{TooHeavy}
use Rattle.rdf_normal.proofs.ShapedLaws.{normal_is_ontology}
use Rattle.rdf_normal.proofs.Filling.{passed_on}
use Rattle.rdf_normal.proofs.SettleTrees.{form_is, settled_apart, weight_is}
use Rattle.rdf_normal.proofs.steps.normal.Goals as goal

pub build-requires-clause-notes : goal.build-requires-clause-notes
build-requires-clause-notes c =
    subst (λ (ns : List ℕ). AreHeld c.settle_all.new.arena.trees ns × AreApart ns) (sym c.deref.ensures.value)
    (settled_apart c.in_ok-arena.arena.trees c.settle_all.new.arena.trees c.in_ok-settled.settled.notes.items (unsettled_annotations (ontology_of c.args.doc.now)) c.in_ok-settled.ensures.settled.notes)

pub build-requires-clause-axioms : goal.build-requires-clause-axioms
build-requires-clause-axioms c =
    subst (λ (ns : List ℕ). AreHeld c.settle_all.new.arena.trees ns × AreApart ns) (sym c.deref-2.ensures.value)
    (settled_apart c.in_ok-arena.arena.trees c.settle_all.new.arena.trees c.in_ok-settled.settled.axioms.items (unsettled_axioms (ontology_of c.args.doc.now)) c.in_ok-settled.ensures.settled.axioms)

pub build-requires-clause-are_notes : goal.build-requires-clause-are_notes
build-requires-clause-are_notes c =
    let us = c.settle_all.new.arena.trees in
    let all = (normal_is_ontology (ontology_of c.args.doc.now) c.axioms-document.ensures.document.ontology).annotations in
    subst (λ (ns : List ℕ). AllByRecursion IsAnnotation (trees_at us ns)) (sym c.deref.ensures.value)
    (subst (AllByRecursion IsAnnotation) (sym c.in_ok-settled.ensures.settled.notes.trees) all)

pub build-requires-clause-are_axioms : goal.build-requires-clause-are_axioms
build-requires-clause-are_axioms c =
    let us = c.settle_all.new.arena.trees in
    let all = (normal_is_ontology (ontology_of c.args.doc.now) c.axioms-document.ensures.document.ontology).axioms in
    subst (λ (ns : List ℕ). AllByRecursion IsAxiom (trees_at us ns)) (sym c.deref-2.ensures.value)
    (subst (AllByRecursion IsAxiom) (sym c.in_ok-settled.ensures.settled.axioms.trees) all)

pub returns-in_err-made-clause-too_heavy : goal.returns-in_err-made-clause-too_heavy
returns-in_err-made-clause-too_heavy c = λ h.
    let o = ontology_of c.args.doc.now in
    let us = c.settle_all.new.arena.trees in
    let made = c.in_ok-settled.ensures.settled in
    let weight = weight_is c.in_ok-arena.arena.trees us o c.in_ok-settled.settled.notes.items c.in_ok-settled.settled.axioms.items c.distinct-trees.ensures.shared made.notes made.axioms in
    let heavy = c.in_err-made.ensures.too_heavy (passed_on c.from_residual-in_err-made.result c.in_err-made.field-0.0 TooHeavy c.from_residual-in_err-made.ensures.1 h) in
    subst (λ n. heaviest < n) (ap (λ (ns : List ℕ). weight_at us ns + weight_at us c.deref-2.result.now) c.deref.ensures.value ∙ ap (λ (ns : List ℕ). weight_at us c.in_ok-settled.settled.notes.items + weight_at us ns) c.deref-2.ensures.value ∙ weight) heavy

pub returns-clause-form : goal.returns-clause-form
returns-clause-form c =
    let d = c.args.doc.now in
    let made = c.in_ok-settled.ensures.settled in
    c.in_ok-made.ensures.ontology
    ∙ ap (λ (ns : List ℕ). canonical_ontology (ontology_of (document_with d c.settle_all.new.arena ns c.deref-2.result.now))) c.deref.ensures.value
    ∙ ap (λ (ns : List ℕ). canonical_ontology (ontology_of (document_with d c.settle_all.new.arena c.in_ok-settled.settled.notes.items ns))) c.deref-2.ensures.value
    ∙ form_is c.in_ok-arena.arena.trees c.settle_all.new.arena d c.in_ok-settled.settled.notes.items c.in_ok-settled.settled.axioms.items c.axioms-document.ensures.document c.distinct-trees.ensures.shared made.notes made.axioms
