-- The only element of a list that passes a test.
use Rattle.std.proofs.Common.{◌≡◌, suc, Bool, List, [], ◌∷◌, length, map, None, Some, inl, inr, refl, sym, ap, ◌∙◌, arith}
use Rattle.std.specs.List.{filter, find}
use Rattle.std.proofs.lemmas.Bool.{cases_Bool, cond-false, cond-true}
use Rattle.std.proofs.lemmas.List.{length-map}
use Rattle.std.proofs.lemmas.Option.{same_Some}
use Rattle.rdf_rows.specs.Chosen.{the_only}

empty_from_length : {X : Type 0} (xs : List X) → suc (length xs) ≡ 1 → xs ≡ []
empty_from_length [] e = refl
empty_from_length (x ∷ xs) e = absurd (omega arith)

pub not_only : {X : Type 0} (xs : List X) → (length xs ≡ 1 → ⊥) → the_only xs ≡ None
not_only [] n = refl
not_only (x ∷ []) n = absurd (n refl)
not_only (x ∷ y ∷ xs) n = refl

pub not_only_of : {X Y : Type 0} (f : X → Y) (xs : List X) → (length xs ≡ 1 → ⊥) → the_only (map f xs) ≡ None
not_only_of f xs n = not_only (map f xs) (λ e. n (sym (length-map xs f) ∙ e))

module _ {X : Type 0} (test : X → Bool) where
  pub none_found : (xs : List X) → find test xs ≡ None → filter test xs ≡ []
  none_found [] e = refl
  none_found (x ∷ xs) e =
      elim (cases_Bool (test x)) [
        | inl t ↦ let some = sym (cond-true (test x) (Some x) (find test xs) t) ∙ e in cc
        | inr f ↦ cond-false (test x) (x ∷ filter test xs) (filter test xs) f ∙ none_found xs (sym (cond-false (test x) (Some x) (find test xs) f) ∙ e)
      ]

  pub only_found : (xs : List X) (x : X) → find test xs ≡ Some x → length (filter test xs) ≡ 1 → filter test xs ≡ x ∷ []
  only_found [] x e n = cc
  only_found (y ∷ xs) x e n =
      elim (cases_Bool (test y)) [
        | inl t ↦
            let kept = cond-true (test y) (y ∷ filter test xs) (filter test xs) t in
            let is : y ≡ x = same_Some y x (sym (cond-true (test y) (Some y) (find test xs) t) ∙ e) in
            let rest : filter test xs ≡ [] = empty_from_length (filter test xs) (sym (ap length kept) ∙ n) in
            kept ∙ (λ i. is i ∷ rest i)
        | inr f ↦
            let kept = cond-false (test y) (y ∷ filter test xs) (filter test xs) f in
            kept ∙ only_found xs x (sym (cond-false (test y) (Some y) (find test xs) f) ∙ e) (sym (ap length kept) ∙ n)
      ]
