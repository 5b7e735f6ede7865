-- What stands in a list at a place that is set, and at the others.
use Rattle.std.specs.Prelude.{◌≡◌, ◌<◌, ℕ, zero, suc, List, [], ◌∷◌, length, get_or, slice_get, slice_set, Some}
use Rattle.std.proofs.Common.{refl, sym, ap, ◌∙◌}
use Rattle.std.proofs.lemmas.Option.{same_Some, slice_get-get_or}

pub set_at : {X : Type 0} (xs : List X) (i : ℕ) (x y : X) → slice_get (slice_set xs i x) i ≡ Some y → x ≡ y
set_at [] i x y e = absurd (cc)
set_at (z ∷ xs) zero x y e = same_Some x y e
set_at (z ∷ xs) (suc i) x y e = set_at xs i x y e

pub set_other : {X : Type 0} (xs : List X) (i j : ℕ) (x : X) → (i ≡ j → ⊥) → slice_get (slice_set xs i x) j ≡ slice_get xs j
set_other [] i j x h = refl
set_other (z ∷ xs) zero zero x h = absurd (h refl)
set_other (z ∷ xs) zero (suc j) x h = refl
set_other (z ∷ xs) (suc i) zero x h = refl
set_other (z ∷ xs) (suc i) (suc j) x h = set_other xs i j x (λ e. h (ap suc e))

pub stands_there : {X : Type 0} (xs : List X) (i : ℕ) (x : X) → i < length xs → x ≡ get_or xs i x → slice_get xs i ≡ Some x
stands_there xs i x within e = slice_get-get_or xs i x within ∙ ap Some (sym e)
