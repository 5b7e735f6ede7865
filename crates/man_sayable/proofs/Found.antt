-- The first of a list that passes a test.
use Rattle.std.proofs.Common.{◌≡◌, Bool, true, false, List, [], ◌∷◌, None, Some, find, refl, sym, ap, ◌∙◌}
use Rattle.std.specs.Prelude.{cond}
use Rattle.std.specs.List.{AllByRecursion}
use Rattle.std.proofs.lemmas.Option.{none-some, same_Some}

module _ {X : Type 0} (test : X → Bool) where
  -- what is found passes
  pub found_passes : (xs : List X) (x : X) → find test xs ≡ Some x → test x ≡ true
  found_passes [] x e = absurd (none-some x e)
  found_passes (y ∷ ys) x e = by (test y) refl (found_passes ys x) e
    where
      by : (b : Bool) → test y ≡ b → (find test ys ≡ Some x → test x ≡ true) → cond b (Some y) (find test ys) ≡ Some x → test x ≡ true
      by true h later f = ap test (sym (same_Some y x f)) ∙ h
      by false h later f = later f

  -- and where none is found, none does
  pub none_passes : (xs : List X) → find test xs ≡ None → AllByRecursion (λ x. test x ≡ false) xs
  none_passes [] e = tt
  none_passes (y ∷ ys) e = by (test y) refl (none_passes ys) e
    where
      by : (b : Bool) → test y ≡ b → (find test ys ≡ None → AllByRecursion (λ x. test x ≡ false) ys) → cond b (Some y) (find test ys) ≡ None → (test y ≡ false) × AllByRecursion (λ x. test x ≡ false) ys
      by true h later f = absurd (none-some y (sym f))
      by false h later f = (h, later f)
