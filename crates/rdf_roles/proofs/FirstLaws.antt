-- The first of a list for which a fact holds, by its place.
use Rattle.std.specs.Prelude.{◌≡◌, ◌<◌, ℕ, zero, suc, List, [], ◌∷◌, Some, length, slice_get}
use Rattle.std.proofs.Common.{refl, ap, arith, below_more}
use Rattle.std.proofs.lemmas.Option.{same_Some}
use Rattle.rdf_faults.specs.Firsts.{HoldsForNone, IsFirst}

module _ {X : Type 0} (P : X → Type 0) where
  -- it holds for none at a lesser place
  abbrev pub HoldsNowhereBelow : List X → ℕ → Type 0
  HoldsNowhereBelow all n = (k : ℕ) → k < n → (x : X) → slice_get all k ≡ Some x → P x → ⊥

  pub first_at : (all : List X) (n : ℕ) (x : X) → HoldsNowhereBelow all n → slice_get all n ≡ Some x → P x → IsFirst P all x
  first_at [] n x none e p = cc
  first_at (y ∷ all) zero x none e p = record { before = []; after = all; split = ap (λ z. z ∷ all) (same_Some y x e); none = tt; holds = p }
  first_at (y ∷ all) (suc n) x none e p =
      let first = first_at all n x (λ k h. none (suc k) (omega arith)) e p in
      record {
        before = y ∷ first.before;
        after = first.after;
        split = ap (λ ys. y ∷ ys) first.split;
        none = (none 0 (omega arith) y refl, first.none);
        holds = p;
      }

  pub holds_for_none : (all : List X) (n : ℕ) → length all ≡ n → HoldsNowhereBelow all n → HoldsForNone P all
  holds_for_none [] n e none = tt
  holds_for_none (y ∷ all) n e none =
      (none 0 (omega arith) y refl, holds_for_none all (length all) refl (λ k h. none (suc k) (omega arith)))

  pub nowhere_below_first : (all : List X) → HoldsNowhereBelow all 0
  nowhere_below_first all k h = absurd (omega arith)

  -- where it does not hold at the next place either
  pub nowhere_below_next : (all : List X) (n : ℕ) → HoldsNowhereBelow all n → ((x : X) → slice_get all n ≡ Some x → P x → ⊥) → HoldsNowhereBelow all (suc n)
  nowhere_below_next all n none here =
      λ k h. below_more (λ k. (x : X) → slice_get all k ≡ Some x → P x → ⊥) n none here k (omega arith)
