-- Numbers that stand once, put in the order of their trees.
use Rattle.std.proofs.Common.{◌≡◌, ◌<◌, ◌≤◌, ◌+◌, ℕ, List, [], ◌∷◌, length, Contains, refl, sym, ap, ◌∙◌, subst, arith}
use Rattle.std.specs.declared.cmp.Ordering.{Ordering}
use Rattle.std.specs.declared.cmp.Ordering.TheVariants.{Less, Equal, Greater}
use Rattle.std.specs.List.{sum_by}
use Rattle.std.proofs.lemmas.List.Sums.{sum_by-cons}
use Rattle.owl_list.specs.Ascending.{AreApart, ascending, by_order, put}
use Rattle.owl_list.proofs.AscendingLaws.{all_in, ascending_holds, from_map, in_head, in_tail}
use Rattle.owl_characters.specs.Order.{text_cmp}
use Rattle.owl_tree.specs.Ontologies.{IsOntology, Ontology, canonical_list, canonical_ontology, list_weight, ontology_weight}
use Rattle.owl_tree.proofs.OntologyLaws.{canonical_is_ontology, canonical_list_again, canonical_ontology_again}
use Rattle.owl_tree.specs.Order.{tree_cmp}
use Rattle.owl_tree.specs.OrderLaws.{only_equal_trees_tie, trees_total}
use Rattle.owl_tree.specs.Trees.{Tree, weight}
use Rattle.owl_doc.specs.Documents.{Document, IsBegun, IsDocument, ontology_of, total_weight, weight_at}
use Rattle.owl_arena.specs.Held.{AreHeld, tree_at, trees_at}
use Rattle.owl_arena.proofs.HeldLaws.{kids_canonical}
use Rattle.owl_arena.specs.Shared.{AreShared, HaveOneNumber, heaviest}

-- an element that is not there is added to the sum where it is put
module _ {X : Type 0} (cmp : X → X → Ordering) (same : (x y : X) → cmp x y ≡ Equal → x ≡ y) (f : X → ℕ) where
  sum_by_order : (o : Ordering) (x y : X) (ys rest : List X) → cmp x y ≡ o → (Contains (y ∷ ys) x → ⊥) → sum_by f rest ≡ f x + sum_by f ys → sum_by f (by_order o (x ∷ y ∷ ys) (y ∷ ys) (y ∷ rest)) ≡ f x + sum_by f (y ∷ ys)
  sum_by_order Less x y ys rest e absent h = sum_by-cons f x (y ∷ ys)
  sum_by_order Equal x y ys rest e absent h = absurd (absent (subst (λ (z : X). Contains (y ∷ ys) z) (sym (same x y e)) (in_head y ys)))
  sum_by_order Greater x y ys rest e absent h = omega (arith, h, sum_by-cons f y rest, sum_by-cons f y ys)

  sum_put : (x : X) (ys : List X) → (Contains ys x → ⊥) → sum_by f (put cmp x ys) ≡ f x + sum_by f ys
  sum_put x [] absent = sum_by-cons f x []
  sum_put x (y ∷ ys) absent = sum_by_order (cmp x y) x y ys (put cmp x ys) refl absent (sum_put x ys (λ m. absent (in_tail y ys x m)))

-- a tree stands among others only by its number
absent_tree : (ts : List Tree) → HaveOneNumber ts → (ids : List ℕ) (id : ℕ) → AreHeld ts ids → id < length ts → (Contains ids id → ⊥) → Contains (trees_at ts ids) (tree_at ts id) → ⊥
absent_tree ts one ids id held here absent m =
    let v = from_map (tree_at ts) ids (tree_at ts id) m in
    let there = all_in (λ (other : ℕ). other < length ts) ids v.element held v.inside in
    absent (subst (λ (other : ℕ). Contains ids other) (one v.element id there here v.value) v.inside)

sum_in_order : (ts : List Tree) → HaveOneNumber ts → (ids : List ℕ) → AreHeld ts ids → AreApart ids → sum_by weight (ascending tree_cmp (trees_at ts ids)) ≡ weight_at ts ids
sum_in_order ts one [] held once = refl
sum_in_order ts one (id ∷ ids) held once =
    let absent = λ (m : Contains (ascending tree_cmp (trees_at ts ids)) (tree_at ts id)). absent_tree ts one ids id held.1 held.0 once.0 ((ascending_holds tree_cmp trees_total only_equal_trees_tie (trees_at ts ids) (tree_at ts id)).0 m) in
    let first = sum_put tree_cmp only_equal_trees_tie weight (tree_at ts id) (ascending tree_cmp (trees_at ts ids)) absent in
    let rest = sum_in_order ts one ids held.1 once.1 in
    first ∙ ap (λ (n : ℕ). weight (tree_at ts id) + n) rest ∙ sym (sum_by-cons weight (tree_at ts id) (trees_at ts ids))

pub in_canonical_order : (ts : List Tree) (ids : List ℕ) (us : List Tree) → AreShared ts → AreHeld ts ids → us ≡ ascending tree_cmp (trees_at ts ids) → us ≡ canonical_list (trees_at ts ids)
in_canonical_order ts ids us shared held e = e ∙ ap (λ (vs : List Tree). ascending tree_cmp vs) (sym (kids_canonical ts shared ids held))

pub weight_in_order : (ts : List Tree) (ids : List ℕ) (us : List Tree) → AreShared ts → AreHeld ts ids → AreApart ids → us ≡ ascending tree_cmp (trees_at ts ids) → list_weight us ≡ weight_at ts ids
weight_in_order ts ids us shared held once e =
    let canonical_us = in_canonical_order ts ids us shared held e in
    let again : canonical_list us ≡ us = ap canonical_list canonical_us ∙ canonical_list_again (trees_at ts ids) ∙ sym canonical_us in
    ap (λ (vs : List Tree). sum_by weight vs) (again ∙ e) ∙ sum_in_order ts shared.one_number ids held once

-- a document that is finished is one in canonical form
pub record Finishes (d e : Document) : Type 0 where
  pub ontology : ontology_of e ≡ canonical_ontology (ontology_of d)
  pub notes : AreHeld e.arena.trees e.notes
  pub axioms : AreHeld e.arena.trees e.axioms
  pub weight : ontology_weight (ontology_of e) ≡ total_weight d

pub finished : (d e : Document) → Finishes d e → IsBegun d → IsDocument e
finished d e f b = record {
  notes = f.notes;
  axioms = f.axioms;
  ontology = subst (λ (o : Ontology). IsOntology o) (sym f.ontology) ((canonical_is_ontology (ontology_of d)).0 b.ontology);
  canonical = ap canonical_ontology f.ontology ∙ canonical_ontology_again (ontology_of d) ∙ sym f.ontology;
  weight = subst (λ (n : ℕ). n ≤ heaviest) (sym f.weight) b.weight;
}

-- it is made of its parts
pub ontology_finished : (d : Document) (imports : List (List ℕ)) (notes axioms : List ℕ) → imports ≡ ascending text_cmp d.head.imports → trees_at d.arena.trees notes ≡ canonical_list (trees_at d.arena.trees d.notes) → trees_at d.arena.trees axioms ≡ canonical_list (trees_at d.arena.trees d.axioms) → ontology_of (record { arena = d.arena; prefixes = d.prefixes; head = record { name = d.head.name; imports = imports }; notes = notes; axioms = axioms }) ≡ canonical_ontology (ontology_of d)
ontology_finished d imports notes axioms e f g = λ i. record { head = record { name = d.head.name; imports = e i }; annotations = f i; axioms = g i }
