-- What lists contain.
use Rattle.std.proofs.Common.{◌≡◌, inl, inr, List, [], ◌∷◌, sym, subst}
use Rattle.std.specs.Prelude.{Contains}
use Rattle.std.specs.List.{flat_map}
use Rattle.std.proofs.lemmas.List.Elements.{Contains-append_cases, Contains-append_left, Contains-append_right, Contains-push_cases}
use Rattle.owl_list.proofs.AscendingLaws.{in_cases, in_head, in_none, in_tail}

pub only : {X : Type 0} (y x : X) → Contains (y ∷ []) x → y ≡ x
only y x h = elim (Contains-push_cases [] y x h) [ inl k ↦ absurd (in_none x k) | inr e ↦ e ]

-- an element of joined lists is one of some of them
pub from_joined : {X A : Type 0} (f : X → List A) (xs : List X) (a : A) → Contains (flat_map f xs) a → (x : X) × Contains xs x × Contains (f x) a
from_joined f [] a h = absurd (in_none a h)
from_joined f (x ∷ xs) a h =
    elim (Contains-append_cases (f x) (flat_map f xs) a h) [
      | inl k ↦ (x, in_head x xs, k)
      | inr k ↦ let r = from_joined f xs a k in (r.0, in_tail x xs r.0 r.1, r.2)
    ]

pub joined_from : {X A : Type 0} (f : X → List A) (xs : List X) (a : A) (x : X) → Contains xs x → Contains (f x) a → Contains (flat_map f xs) a
joined_from f [] a x h k = absurd (in_none x h)
joined_from f (y ∷ xs) a x h k =
    elim (in_cases y xs x h) [
      | inl e ↦ Contains-append_left (f y) (flat_map f xs) a (subst (λ z. Contains (f z) a) (sym e) k)
      | inr t ↦ Contains-append_right (f y) (flat_map f xs) a (joined_from f xs a x t k)
    ]
