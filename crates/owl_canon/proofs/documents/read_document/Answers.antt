use Rattle.std.proofs.Common.{◌≤◌, ◌++◌, ◌∙◌, [], List, ℕ, ap, subst, sym}
use Rattle.std.proofs.lemmas.List.{append-nil}
use Rattle.owl_arena.specs.Held.{AreHeld}
use Rattle.owl_arena.specs.Shared.{heaviest}
use Rattle.owl_canon.specs.Bytes.{counted, optional_bytes, text_bytes, tree_bytes}
use Rattle.owl_canon.proofs.Finding.{finds_later, passed_on}
use Rattle.owl_canon.proofs.WholeDocuments.{axioms_readable, notes_readable, whole}
use Rattle.owl_doc.specs.Heads.{iri_in, version_in}
use Rattle.owl_tree.specs.Ontologies.{IsOntology, Ontology, canonical_ontology, ontology_weight}
use Rattle.rdf_normal.proofs.Extending.{held_later}
use Rattle.owl_canon.proofs.documents.read_document.Goals as goal

-- what stands behind the head, and before it
abbrev trees_of : Ontology → List ℕ
trees_of o = counted tree_bytes o.annotations ++ counted tree_bytes o.axioms

abbrev behind_beginning : Ontology → List ℕ
behind_beginning o = optional_bytes (iri_in o.head.name) ++ (optional_bytes (version_in o.head.name) ++ (counted text_bytes o.head.imports ++ trees_of o))

pub returns-in_err-notes-clause-found : goal.returns-in_err-notes-clause-found
returns-in_err-notes-clause-found c = λ o w own e.
    let begun = c.in_ok-begin.ensures (behind_beginning o) (c.new-input.ensures ∙ e) in
    let head = c.in_ok-head.ensures.found o (trees_of o) w.ontology.head w.bytes begun in
    passed_on c.from_residual-in_err-notes.result c.in_err-notes.field-0.0 _ c.from_residual-in_err-notes.ensures.1
    (c.in_err-notes.ensures.found o.annotations (counted tree_bytes o.axioms) (notes_readable o w own) w.bytes.annotations.few head.1)

pub returns-in_err-axioms-clause-found : goal.returns-in_err-axioms-clause-found
returns-in_err-axioms-clause-found c = λ o w own e.
    let begun = c.in_ok-begin.ensures (behind_beginning o) (c.new-input.ensures ∙ e) in
    let head = c.in_ok-head.ensures.found o (trees_of o) w.ontology.head w.bytes begun in
    let notes = c.in_ok-notes.ensures.found o.annotations (counted tree_bytes o.axioms) (notes_readable o w own) w.bytes.annotations.few head.1 in
    passed_on c.from_residual-in_err-axioms.result c.in_err-axioms.field-0.0 _ c.from_residual-in_err-axioms.ensures.1
    (c.in_err-axioms.ensures.found o.axioms [] (axioms_readable o w own) w.bytes.axioms.few (notes.1 ∙ sym (append-nil (counted tree_bytes o.axioms))))

pub document_of-requires-clause-notes : goal.document_of-requires-clause-notes
document_of-requires-clause-notes c =
    subst (AreHeld c.read_trees-2.new.arena.trees) (sym c.deref.ensures.value)
    (held_later _ _ c.in_ok-notes.notes.items c.in_ok-axioms.ensures.here.extends c.in_ok-notes.ensures.here.held)

pub returns-clause-found : goal.returns-clause-found
returns-clause-found c = λ o w own e.
    let begun = c.in_ok-begin.ensures (behind_beginning o) (c.new-input.ensures ∙ e) in
    let head = c.in_ok-head.ensures.found o (trees_of o) w.ontology.head w.bytes begun in
    let notes = c.in_ok-notes.ensures.found o.annotations (counted tree_bytes o.axioms) (notes_readable o w own) w.bytes.annotations.few head.1 in
    let axioms = c.in_ok-axioms.ensures.found o.axioms [] (axioms_readable o w own) w.bytes.axioms.few (notes.1 ∙ sym (append-nil (counted tree_bytes o.axioms))) in
    let is_it = whole o c.in_ok-head.head _ _ c.in_ok-notes.notes.items c.in_ok-axioms.axioms.items c.deref.result.now c.deref-2.result.now head.0 c.deref.ensures.value c.deref-2.ensures.value c.in_ok-axioms.ensures.here.extends c.in_ok-notes.ensures.here.held notes.0 axioms.0 in
    finds_later c.document_of.result _ _ (λ doc k. k ∙ ap canonical_ontology is_it ∙ own)
    (c.document_of.ensures.found (subst IsOntology (sym is_it) w.ontology) (subst (λ (p : Ontology). ontology_weight p ≤ heaviest) (sym is_it) w.weight))
