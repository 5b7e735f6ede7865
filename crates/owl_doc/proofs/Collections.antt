-- Numbers in a list and as marks.
use Rattle.std.proofs.Common.{◌≡◌, ◌<◌, ◌↔◌, ◌||◌, length, inl, inr, ℕ, Bool, true, false, List, [], ◌∷◌, ◌++◌, IsTrue, cond, nat_eq, refl, sym, ap, ◌∙◌, subst}
use Rattle.std.specs.Cmp.{nat_eq_equiv}
use Rattle.std.specs.List.{Contains, list_any}
use Rattle.std.specs.Prelude.{slice_index_or, slice_set}
use Rattle.std.proofs.lemmas.Bool.{eqb-true, false≢true}
use Rattle.std.proofs.lemmas.List.{get_or-set_other}
use Rattle.std.proofs.lemmas.Grind.{get_or-set_at}
use Rattle.std.proofs.lemmas.List.Elements.{Contains-append_cases}
use Rattle.std.proofs.lemmas.List.Folds.{list_any-append}
use Rattle.std.proofs.lemmas.Map.Views.{Contains-from_any, list_any-from_Contains}
use Rattle.owl_list.specs.Ascending.{AreApart}
use Rattle.owl_list.proofs.AscendingLaws.{in_cases, in_head, in_none, in_tail}

pub told : (ids : List ℕ) (id : ℕ) → IsTrue (list_any (nat_eq id) ids) ↔ Contains ids id
told ids id = (Contains-from_any eqb-true id ids, list_any-from_Contains nat_eq_equiv id ids)

by_test : (a b c : Bool) → a ≡ b → cond a true c ≡ (c || (b || false))
by_test true true true e = refl
by_test true true false e = refl
by_test true false c e = cc
by_test false true c e = cc
by_test false false true e = refl
by_test false false false e = refl

-- the marks after one more
pub mark_put : (marks : List Bool) (id q : ℕ) → id < length marks → slice_index_or (slice_set marks id true) q false ≡ cond (nat_eq id q) true (slice_index_or marks q false)
mark_put marks id q h = by_equality (nat_eq id q) refl
  where
    by_equality : (same : Bool) → nat_eq id q ≡ same → slice_index_or (slice_set marks id true) q false ≡ cond same true (slice_index_or marks q false)
    by_equality true e = get_or-set_at marks id q true false (sym (eqb-true id q e)) h
    by_equality false e = get_or-set_other marks id q true false (λ f. false≢true (sym e ∙ subst (λ (n : ℕ). nat_eq id n ≡ true) (sym f) (nat_eq_equiv.refl id)))

-- what is told after one more number is put in
pub known_pushed : (ids : List ℕ) (id : ℕ) (old new : ℕ → Bool) → ((q : ℕ) → old q ≡ list_any (nat_eq q) ids) → ((q : ℕ) → new q ≡ cond (nat_eq id q) true (old q)) → (q : ℕ) → new q ≡ list_any (nat_eq q) (ids ++ id ∷ [])
known_pushed ids id old new before after q =
    after q
    ∙ ap (λ (b : Bool). cond (nat_eq id q) true b) (before q)
    ∙ by_test (nat_eq id q) (nat_eq q id) (list_any (nat_eq q) ids) (nat_eq_equiv.symm id q)
    ∙ sym (list_any-append (nat_eq q) ids (id ∷ []))

pub once_pushed : (ids : List ℕ) (id : ℕ) → AreApart ids → (Contains ids id → ⊥) → AreApart (ids ++ id ∷ [])
once_pushed [] id once new = (in_none id, tt)
once_pushed (x ∷ ids) id once new = (
  λ m. elim (Contains-append_cases ids (id ∷ []) x m) [
    | inl k ↦ once.0 k
    | inr k ↦ elim (in_cases id [] x k) [ inl e ↦ new (subst (λ (y : ℕ). Contains (x ∷ ids) y) (sym e) (in_head x ids)) | inr k ↦ in_none x k ]
  ],
  once_pushed ids id once.1 (λ m. new (in_tail x ids id m)),
)
