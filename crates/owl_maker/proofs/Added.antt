-- A tree that is added to a document, or was there already.
use Rattle.std.proofs.Common.{◌≡◌, ◌↔◌, ◌⊎◌, inl, inr, refl, sym, ap, ◌∙◌, subst, true, false, Bool, IsTrue, arith, ◌<◌, ℕ}
use Rattle.std.specs.Prelude.{List, [], ◌∷◌, ◌++◌, length, Contains}
use Rattle.std.proofs.lemmas.Bool.{cases_lt, false≢true}
use Rattle.std.proofs.lemmas.List.{map-append}
use Rattle.owl_arena.specs.Growth.{Adds, Lacks}
use Rattle.owl_arena.specs.Held.{AreHeld, tree_at, trees_at}
use Rattle.owl_arena.proofs.HeldLaws.{entry_at}
use Rattle.owl_arena.specs.Shared.{AreShared}
use Rattle.owl_list.proofs.AscendingLaws.{all_in, from_map, in_cases, in_head, in_map, in_none, in_tail}
use Rattle.owl_tree.specs.Canonical.{canonical}
use Rattle.owl_tree.specs.Trees.{Tree, weight}
use Rattle.owl_doc.specs.Documents.{Document, IsBegun, PassesWeight, with_axiom, with_note}
use Rattle.owl_maker.specs.Makings.{AddsAnnotation, AddsAxiom, IsHeavy, PassesLimit}

same_or_not : (a b : ℕ) → (a ≡ b) ⊎ (a ≡ b → ⊥)
same_or_not a b = elim (cases_lt a b) [
  | inl l ↦ inr (λ e. omega arith)
  | inr g ↦ elim (cases_lt b a) [ inl l ↦ inr (λ e. omega arith) | inr h ↦ inl (omega arith) ]
]

there_or_not_first : (x : ℕ) (xs : List ℕ) (id : ℕ) → (x ≡ id) ⊎ (x ≡ id → ⊥) → Contains xs id ⊎ (Contains xs id → ⊥) → Contains (x ∷ xs) id ⊎ (Contains (x ∷ xs) id → ⊥)
there_or_not_first x xs id (inl e) r = inl (subst (Contains (x ∷ xs)) e (in_head x xs))
there_or_not_first x xs id (inr n) (inl m) = inl (in_tail x xs id m)
there_or_not_first x xs id (inr n) (inr k) = inr (λ m. elim (in_cases x xs id m) [ inl e ↦ n e | inr l ↦ k l ])

there_or_not : (ids : List ℕ) (id : ℕ) → Contains ids id ⊎ (Contains ids id → ⊥)
there_or_not [] id = inr (in_none id)
there_or_not (x ∷ xs) id = there_or_not_first x xs id (same_or_not x id) (there_or_not xs id)

-- a number that is not added is there
is_there : (ids : List ℕ) (id : ℕ) → (IsTrue false ↔ (Contains ids id → ⊥)) → Contains ids id
is_there ids id h = elim (there_or_not ids id) [ inl m ↦ m | inr n ↦ absurd (false≢true (h.1 n)) ]

module _ (ts : List Tree) (shared : AreShared ts) where
  -- numbers stand for their trees
  pub tree_absent : (ids : List ℕ) (id : ℕ) → AreHeld ts ids → id < length ts → (Contains ids id → ⊥) → Lacks (trees_at ts ids) (tree_at ts id)
  tree_absent ids id held here absent m =
      let v = from_map (tree_at ts) ids (tree_at ts id) m in
      let inside = all_in (λ (k : ℕ). k < length ts) ids v.element held v.inside in
      absent (subst (Contains ids) (shared.one_number v.element id inside here v.value) v.inside)

  pub heavy_absent : (ids : List ℕ) (t : Tree) → AreHeld ts ids → IsHeavy t → Lacks (trees_at ts ids) (canonical t)
  heavy_absent ids t held h m =
      let v = from_map (tree_at ts) ids (canonical t) m in
      let inside = all_in (λ (k : ℕ). k < length ts) ids v.element held v.inside in
      let light = (entry_at ts v.element shared inside).weight in
      let same = ap weight v.value in
      let heavy = h.weight in
      omega (arith, light, same, heavy)

pushed : (ts : List Tree) (ids : List ℕ) (id : ℕ) → trees_at ts (ids ++ id ∷ []) ≡ trees_at ts ids ++ tree_at ts id ∷ []
pushed ts ids id = map-append (tree_at ts) ids (id ∷ [])

module _ (d : Document) (shared : AreShared d.arena.trees) (begun : IsBegun d) (id : ℕ) (here : id < length d.arena.trees) where
  abbrev trees : List Tree
  trees = d.arena.trees

  notes_more : (b : Bool) (u : Tree) → tree_at trees id ≡ u → (IsTrue b ↔ (Contains d.notes id → ⊥)) → Adds (trees_at trees d.notes) (trees_at trees (with_note b id d).notes) u
  notes_more true u e h = inr (
    subst (Lacks (trees_at trees d.notes)) e (tree_absent trees shared d.notes id begun.notes here (h.0 refl)),
    pushed trees d.notes id ∙ ap (λ (t : Tree). trees_at trees d.notes ++ t ∷ []) e,
  )
  notes_more false u e h = inl (subst (Contains (trees_at trees d.notes)) e (in_map (tree_at trees) d.notes id (is_there d.notes id h)), refl)

  axioms_more : (b : Bool) (u : Tree) → tree_at trees id ≡ u → (IsTrue b ↔ (Contains d.axioms id → ⊥)) → Adds (trees_at trees d.axioms) (trees_at trees (with_axiom b id d).axioms) u
  axioms_more true u e h = inr (
    subst (Lacks (trees_at trees d.axioms)) e (tree_absent trees shared d.axioms id begun.axioms here (h.0 refl)),
    pushed trees d.axioms id ∙ ap (λ (t : Tree). trees_at trees d.axioms ++ t ∷ []) e,
  )
  axioms_more false u e h = inl (subst (Contains (trees_at trees d.axioms)) e (in_map (tree_at trees) d.axioms id (is_there d.axioms id h)), refl)

  note_with : (b : Bool) (t : Tree) → tree_at trees id ≡ canonical t → (IsTrue b ↔ (Contains d.notes id → ⊥)) → AddsAnnotation d (with_note b id d) t
  note_with true t e h = record { added = notes_more true (canonical t) e h; rest = refl }
  note_with false t e h = record { added = notes_more false (canonical t) e h; rest = refl }

  axiom_with : (b : Bool) (t : Tree) → tree_at trees id ≡ canonical t → (IsTrue b ↔ (Contains d.axioms id → ⊥)) → AddsAxiom d (with_axiom b id d) t
  axiom_with true t e h = record { added = axioms_more true (canonical t) e h; rest = refl }
  axiom_with false t e h = record { added = axioms_more false (canonical t) e h; rest = refl }

  pub note_added : (new : Document) (b : Bool) (t : Tree) → new ≡ with_note b id d → tree_at trees id ≡ canonical t → (IsTrue b ↔ (Contains d.notes id → ⊥)) → AddsAnnotation d new t
  note_added new b t f e h = subst (λ (n : Document). AddsAnnotation d n t) (sym f) (note_with b t e h)

  pub axiom_added : (new : Document) (b : Bool) (t : Tree) → new ≡ with_axiom b id d → tree_at trees id ≡ canonical t → (IsTrue b ↔ (Contains d.axioms id → ⊥)) → AddsAxiom d new t
  axiom_added new b t f e h = subst (λ (n : Document). AddsAxiom d n t) (sym f) (axiom_with b t e h)

  -- numbers and trees pass the limit together
  pub limit_passed : (ids : List ℕ) (t : Tree) → AreHeld trees ids → tree_at trees id ≡ canonical t → PassesWeight d ids id → PassesLimit d (trees_at trees ids) t
  limit_passed ids t held e p = record {
    new = subst (Lacks (trees_at trees ids)) e (tree_absent trees shared ids id held here p.new);
    heavy = let same = ap weight e in let heavy = p.heavy in omega (arith, same, heavy);
  }

  pub weight_passed : (ids : List ℕ) (t : Tree) → tree_at trees id ≡ canonical t → PassesLimit d (trees_at trees ids) t → PassesWeight d ids id
  weight_passed ids t e p = record {
    new = λ m. p.new (subst (Contains (trees_at trees ids)) e (in_map (tree_at trees) ids id m));
    heavy = let same = ap weight e in let heavy = p.heavy in omega (arith, same, heavy);
  }

-- a tree that is too heavy alone
pub heavy_passes : (d : Document) (ids : List ℕ) (t : Tree) → AreShared d.arena.trees → AreHeld d.arena.trees ids → IsHeavy t → PassesLimit d (trees_at d.arena.trees ids) t
heavy_passes d ids t shared held h = record {
  new = heavy_absent d.arena.trees shared ids t held h;
  heavy = let heavy = h.weight in omega (arith, heavy);
}
