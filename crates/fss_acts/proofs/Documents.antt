-- What a document that is begun says.
use Rattle.std.proofs.Common.{◌≡◌, ◌<◌, ◌≤◌, ℕ, length, sym, ap, ◌∙◌, subst, List}
use Rattle.std.specs.List.{AllByRecursion}
use Rattle.owl_arena.specs.Held.{AreHeld, tree_at, trees_at}
use Rattle.owl_arena.proofs.HeldLaws.{entry_at}
use Rattle.owl_arena.specs.Shared.{AreShared, deepest}
use Rattle.owl_doc.specs.Documents.{Document, IsBegun, IsDocument, ontology_of}
use Rattle.owl_list.proofs.AscendingLaws.{all_later, all_map, same_from_equal}
use Rattle.owl_maker.specs.Makings.{Grows}
use Rattle.owl_maker.proofs.MakerLaws.{same_ontology}
use Rattle.owl_tree.specs.Ontologies.{Head, HoldEquivalent, IsSameOntology, Ontology, canonical_ontology}
use Rattle.owl_tree.proofs.OntologyLaws.{canonical_same_ontology, same_ontology_trans}
use Rattle.owl_tree.specs.Trees.{Tree, depth}
use Rattle.fss_terms.specs.Functional.{IsWithinLimits}
use Rattle.fss_acts.specs.Assembling.{IsBuiltAs}

-- the same, where it says the same ontology as before
pub says_same : (old new : Document) → ontology_of new ≡ ontology_of old → (o : Ontology) → IsBuiltAs old o → IsBuiltAs new o
says_same old new e o s = record {
  head = ap (λ (p : Ontology). p.head) e ∙ s.head;
  annotations = subst (λ (ts : List Tree). HoldEquivalent o.annotations ts) (sym (ap (λ (p : Ontology). p.annotations) e)) s.annotations;
  axioms = subst (λ (ts : List Tree). HoldEquivalent o.axioms ts) (sym (ap (λ (p : Ontology). p.axioms) e)) s.axioms;
}

pub says_grown : (old new : Document) → IsBegun old → Grows old new → (o : Ontology) → IsBuiltAs old o → IsBuiltAs new o
says_grown old new begun grows = says_same old new (same_ontology old new begun grows)

-- it is the same ontology as the one that it says, and so is its canonical form
pub says_canonical : (d : Document) (o p : Ontology) → IsBuiltAs d o → p ≡ canonical_ontology (ontology_of d) → IsSameOntology o p
says_canonical d o p s e =
    let same : IsSameOntology o (ontology_of d) = record {
      head = record {
        name = sym (ap (λ (h : Head). h.name) s.head);
        imports = same_from_equal o.head.imports d.head.imports (sym (ap (λ (h : Head). h.imports) s.head));
      };
      annotations = s.annotations;
      axioms = s.axioms;
    } in
    subst (IsSameOntology o) (sym e) (same_ontology_trans o (ontology_of d) (canonical_ontology (ontology_of d)) same (canonical_same_ontology (ontology_of d)))

-- ---- limits

not_deep : (ts : List Tree) → AreShared ts → (ids : List ℕ) → AreHeld ts ids → AllByRecursion (λ t. depth t ≤ deepest) (trees_at ts ids)
not_deep ts shared ids held =
    all_map (tree_at ts) (λ t. depth t ≤ deepest) ids (all_later (λ id. id < length ts) (λ id. depth (tree_at ts id) ≤ deepest) (λ id here. (entry_at ts id shared here).depth) ids held)

pub within_limits : (d : Document) → IsDocument d → AreShared d.arena.trees → IsWithinLimits (ontology_of d)
within_limits d is shared = record {
  annotations = not_deep d.arena.trees shared d.notes is.notes;
  axioms = not_deep d.arena.trees shared d.axioms is.axioms;
  weight = is.weight;
}
