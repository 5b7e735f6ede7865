-- Parts of lists.
use Rattle.std.specs.Prelude.{◌⊎◌, List, [], ◌∷◌, ◌++◌, Contains}
use Rattle.std.proofs.Common.{inl, inr, subst}
use Rattle.owl_list.proofs.AscendingLaws.{in_cases, in_head, in_none, in_tail}

pub from_parts : {X : Type 0} (xs ys : List X) (x : X) → Contains (xs ++ ys) x → Contains xs x ⊎ Contains ys x
from_parts [] ys x m = inr m
from_parts (y ∷ xs) ys x m = elim (in_cases y (xs ++ ys) x m) as (λ _. Contains (y ∷ xs) x ⊎ Contains ys x) [
  | inl e ↦ inl (subst (Contains (y ∷ xs)) e (in_head y xs))
  | inr k ↦ elim (from_parts xs ys x k) as (λ _. Contains (y ∷ xs) x ⊎ Contains ys x) [ inl n ↦ inl (in_tail y xs x n) | inr n ↦ inr n ]
]

pub in_front : {X : Type 0} (xs ys : List X) (x : X) → Contains xs x → Contains (xs ++ ys) x
in_front [] ys x m = absurd (in_none x m)
in_front (y ∷ xs) ys x m = elim (in_cases y xs x m) as (λ _. Contains (y ∷ (xs ++ ys)) x) [
  | inl e ↦ subst (Contains (y ∷ (xs ++ ys))) e (in_head y (xs ++ ys))
  | inr k ↦ in_tail y (xs ++ ys) x (in_front xs ys x k)
]

pub in_second : {X : Type 0} (xs ys : List X) (x : X) → Contains ys x → Contains (xs ++ ys) x
in_second [] ys x m = m
in_second (y ∷ xs) ys x m = in_tail y (xs ++ ys) x (in_second xs ys x m)
