-- Documents that say the same.
use Rattle.std.proofs.Common.{◌≡◌, ℕ, Bool, List, sym, ap, ◌∙◌}
use Rattle.std.specs.Prelude.{◌↔◌, IsTrue}
use Rattle.owl_doc.specs.Documents.{Document, IsDocument, ontology_of}
use Rattle.owl_arena.specs.Held.{Held, trees_at}
use Rattle.owl_tree.specs.Ontologies.{Head, IsSameOntology, Ontology}
use Rattle.owl_tree.proofs.OntologyLaws.{same_ontology_is_equal_form}

-- documents say the same exactly where these parts are equal
pub record HaveSameParts (d e : Document) : Type 0 where
  pub head : d.head ≡ e.head
  pub notes : trees_at d.arena.trees d.notes ≡ trees_at e.arena.trees e.notes
  pub axioms : trees_at d.arena.trees d.axioms ≡ trees_at e.arena.trees e.axioms

pub same_from_parts : (d e : Document) → IsDocument d → IsDocument e → HaveSameParts d e → IsSameOntology (ontology_of d) (ontology_of e)
same_from_parts d e h k parts =
    let head = parts.head in
    let notes = parts.notes in
    let axioms = parts.axioms in
    let same : ontology_of d ≡ ontology_of e = λ i. record { head = head i; annotations = notes i; axioms = axioms i } in
    (same_ontology_is_equal_form (ontology_of d) (ontology_of e)).1 (h.canonical ∙ same ∙ sym k.canonical)

pub parts_of_same : (d e : Document) → IsDocument d → IsDocument e → IsSameOntology (ontology_of d) (ontology_of e) → HaveSameParts d e
parts_of_same d e h k same =
    let forms = (same_ontology_is_equal_form (ontology_of d) (ontology_of e)).0 same in
    let equal : ontology_of d ≡ ontology_of e = sym h.canonical ∙ forms ∙ k.canonical in
    record {
      head = ap (λ (o : Ontology). o.head) equal;
      notes = ap (λ (o : Ontology). o.annotations) equal;
      axioms = ap (λ (o : Ontology). o.axioms) equal;
    }

pub heads_of : (r : Bool) (a b d e : Head) → a ≡ d → b ≡ e → IsTrue r ↔ (a ≡ b) → IsTrue r ↔ (d ≡ e)
heads_of r a b d e p q k = (λ h. sym p ∙ k.0 h ∙ q, λ same. k.1 (p ∙ same ∙ sym q))

pub lists_of : (r : Bool) (a b d e : Held) (ids others own theirs : List ℕ) → a ≡ d → b ≡ e → ids ≡ own → others ≡ theirs → IsTrue r ↔ (trees_at a.trees ids ≡ trees_at b.trees others) → IsTrue r ↔ (trees_at d.trees own ≡ trees_at e.trees theirs)
lists_of r a b d e ids others own theirs p q m n k =
    let first : trees_at a.trees ids ≡ trees_at d.trees own = λ i. trees_at (p i).trees (m i) in
    let second : trees_at b.trees others ≡ trees_at e.trees theirs = λ i. trees_at (q i).trees (n i) in
    (λ h. sym first ∙ k.0 h ∙ second, λ same. k.1 (first ∙ same ∙ sym second))
