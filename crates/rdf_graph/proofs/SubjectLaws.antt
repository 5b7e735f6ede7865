-- The triples with a subject stand side by side.
use Rattle.std.specs.Prelude.{◌≡◌, ◌↔◌, ◌<◌, ◌≤◌, ◌+◌, ◌-◌, ℕ, zero, suc, Bool, true, cond, List, [], ◌∷◌, Some, drop, option_map, slice_get, take}
use Rattle.std.specs.List.{filter}
use Rattle.std.specs.Ordering.{eq_by_cmp}
use Rattle.std.proofs.Common.{refl, sym, ap, ◌∙◌, arith}
use Rattle.std.proofs.Math.Seq.{drop-nil, take-nil}
use Rattle.std.proofs.lemmas.Bool.{false_from_ne_true}
use Rattle.std.proofs.lemmas.Option.{same_Some}
use Rattle.rdf_graph.specs.declared.term.Term.{Term}
use Rattle.rdf_graph.specs.declared.triple.Triple.{Triple}
use Rattle.rdf_graph.specs.Graphs.{subject_at}
use Rattle.rdf_graph.specs.Terms.{term_cmp}
use Rattle.rdf_graph.proofs.TermLaws.{only_equal_terms_compare_equal}

module _ {X : Type 0} (test : X → Bool) where
  -- an element passes exactly where it is one of so many, from a place on
  abbrev pub PassFrom : List X → ℕ → ℕ → Type 0
  PassFrom xs first count = (place : ℕ) (x : X) → slice_get xs place ≡ Some x → (test x ≡ true) ↔ ((first ≤ place) × (place < first + count))

  keeps : (x : X) (xs : List X) → test x ≡ true → cond (test x) (x ∷ xs) xs ≡ x ∷ xs
  keeps x xs passes = ap (λ b. cond b (x ∷ xs) xs) passes

  drops : (x : X) (xs : List X) → (test x ≡ true → ⊥) → cond (test x) (x ∷ xs) xs ≡ xs
  drops x xs fails = ap (λ b. cond b (x ∷ xs) xs) (false_from_ne_true (test x) fails)

  -- what passes is then that part of the list
  pub part_passes : (xs : List X) (first count : ℕ) → PassFrom xs first count → filter test xs ≡ take count (drop first xs)
  part_passes [] first count pass = sym (ap (take count) (drop-nil first) ∙ take-nil count)
  part_passes (x ∷ xs) zero zero pass =
      drops x (filter test xs) (λ h. let within = (pass 0 x refl).0 h in omega arith)
      ∙ part_passes xs 0 0 (λ place y e. (λ h. let within = (pass (suc place) y e).0 h in (omega arith, omega arith), λ h. absurd (omega arith)))
  part_passes (x ∷ xs) zero (suc count) pass =
      keeps x (filter test xs) ((pass 0 x refl).1 (omega arith, omega arith))
      ∙ ap (λ ys. x ∷ ys)
      (part_passes xs 0 count (λ place y e. (λ h. let within = (pass (suc place) y e).0 h in (omega arith, omega arith), λ h. (pass (suc place) y e).1 (omega arith, omega arith))))
  part_passes (x ∷ xs) (suc first) count pass =
      drops x (filter test xs) (λ h. let within = (pass 0 x refl).0 h in omega arith)
      ∙ part_passes xs first count (λ place y e. (λ h. let within = (pass (suc place) y e).0 h in (omega arith, omega arith), λ h. (pass (suc place) y e).1 (omega arith, omega arith)))

-- where those with a subject stand from one place to another, they are the triples between the two
pub triples_between : (triples : List Triple) (term : Term) (first past : ℕ) → ((place : ℕ) → (subject_at triples place ≡ Some term) ↔ ((first ≤ place) × (place < past)))
    → take (past - first) (drop first triples) ≡ filter (λ t. eq_by_cmp term_cmp t.subject term) triples
triples_between triples term first past among =
    sym (part_passes (λ (t : Triple). eq_by_cmp term_cmp t.subject term) triples first (past - first) (λ place t e.
    let ties = only_equal_terms_compare_equal t.subject term in
    let named = ap (option_map (λ (t : Triple). t.subject)) e in (
      λ h. let within = (among place).0 (named ∙ ap Some (ties.0 h)) in (omega arith, omega arith),
      λ h. ties.1 (same_Some _ _ (sym named ∙ (among place).1 (omega arith, omega arith))),
    )))
