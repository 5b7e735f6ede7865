-- The first part of a document of which a fact doesn't hold, as a search finds it: the header, and then axiom by axiom.
use Rattle.std.proofs.Common.{◌≡◌, ◌<◌, ◌+◌, ℕ, suc, List, [], ◌∷◌, ◌++◌, drop, drop-cons, get_or, length, map, sym, ap, ◌∙◌, subst, take}
use Rattle.std.specs.List.{AllByRecursion}
use Rattle.std.proofs.lemmas.List.{map-append, take-append-drop, take_more}
use Rattle.owl_arena.specs.Held.{tree_at, trees_at}
use Rattle.owl_doc.specs.Documents.{Document, IsDocument, ontology_of}
use Rattle.owl_list.proofs.AscendingLaws.{all_pushed}
use Rattle.owl_tree.specs.Ontologies.{Ontology}
use Rattle.owl_tree.specs.Trees.{Tree}
use Rattle.owl_doc.specs.Parts.{IsFirstWithout, Part, of_axiom, of_header, parts_of}

-- the axioms with these numbers
abbrev pub axioms_at : List Tree → List ℕ → List Part
axioms_at ts ids = map of_axiom (trees_at ts ids)

axioms_both : (ts : List Tree) (front rest : List ℕ) → axioms_at ts (front ++ rest) ≡ axioms_at ts front ++ axioms_at ts rest
axioms_both ts front rest = ap (λ (us : List Tree). map of_axiom us) (map-append (tree_at ts) front rest) ∙ map-append of_axiom (trees_at ts front) (trees_at ts rest)

-- the parts of a document, which stand in canonical order
pub document_parts : (d : Document) → IsDocument d → parts_of (ontology_of d) ≡ of_header (ontology_of d).annotations ∷ axioms_at d.arena.trees d.axioms
document_parts d h = ap (λ (o : Ontology). of_header o.annotations ∷ map of_axiom o.axioms) h.canonical

module _ (Holds : Part → Type 0) where
  module _ (ts : List Tree) where
    -- it holds of the axioms before this one
    abbrev pub HoldsBefore : ℕ → List ℕ → Type 0
    HoldsBefore index ids = AllByRecursion Holds (axioms_at ts (take index ids))

    pub one_more_axiom : (ids : List ℕ) (index id : ℕ) → index < length ids → id ≡ get_or ids index id → HoldsBefore index ids → Holds (of_axiom (tree_at ts id)) → HoldsBefore (index + 1) ids
    one_more_axiom ids index id h is before here =
        let more : take (index + 1) ids ≡ take index ids ++ id ∷ [] = take_more ids index id h ∙ ap (λ x. take index ids ++ x ∷ []) (sym is) in
        let both = axioms_both ts (take index ids) (id ∷ []) in
        subst (λ (parts : List Part). AllByRecursion Holds parts) (sym (ap (axioms_at ts) more ∙ both))
        (all_pushed Holds (axioms_at ts (take index ids)) (of_axiom (tree_at ts id)) before here)

    -- this axiom is the first
    pub first_axiom : (ids : List ℕ) (index id : ℕ) → index < length ids → id ≡ get_or ids index id → HoldsBefore index ids → (Holds (of_axiom (tree_at ts id)) → ⊥) → IsFirstWithout Holds (axioms_at ts ids) (of_axiom (tree_at ts id))
    first_axiom ids index id h is before fails =
        let rest = drop (suc index) ids in
        let parts : take index ids ++ id ∷ rest ≡ ids = ap (λ (xs : List ℕ). take index ids ++ xs) (ap (λ (x : ℕ). x ∷ rest) is ∙ sym (drop-cons ids index id h)) ∙ take-append-drop index ids in
        record {
          before = axioms_at ts (take index ids);
          after = axioms_at ts rest;
          split = ap (axioms_at ts) (sym parts) ∙ axioms_both ts (take index ids) (id ∷ rest);
          held = before;
          fails = fails;
        }

  module _ (d : Document) (h : IsDocument d) where
    abbrev header : Part
    header = of_header (ontology_of d).annotations

    -- the header is the first
    pub header_first : (Holds header → ⊥) → IsFirstWithout Holds (parts_of (ontology_of d)) header
    header_first fails = record { before = []; after = axioms_at d.arena.trees d.axioms; split = document_parts d h; held = tt; fails = fails }

    -- where it holds of the header, the first is an axiom, or there is none
    pub axiom_first : (part : Part) → Holds header → IsFirstWithout Holds (axioms_at d.arena.trees d.axioms) part → IsFirstWithout Holds (parts_of (ontology_of d)) part
    axiom_first part here first = record {
      before = header ∷ first.before;
      after = first.after;
      split = document_parts d h ∙ ap (λ (parts : List Part). header ∷ parts) first.split;
      held = (here, first.held);
      fails = first.fails;
    }

    pub holds_of_all : Holds header → AllByRecursion Holds (axioms_at d.arena.trees d.axioms) → AllByRecursion Holds (parts_of (ontology_of d))
    holds_of_all here rest = subst (λ (parts : List Part). AllByRecursion Holds parts) (sym (document_parts d h)) (here, rest)
