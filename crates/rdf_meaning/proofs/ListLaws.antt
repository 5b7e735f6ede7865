-- The laws of lists on which the others stand.
use Rattle.std.specs.Prelude.{◌≡◌, ◌≤◌, Bool, true, List, [], ◌∷◌, Contains, length}
use Rattle.std.specs.List.{list_all, list_any}
use Rattle.std.proofs.Common.{arith, inl, inr, subst}
use Rattle.std.proofs.lemmas.Bool.{and_parts, or_cases}
use Rattle.owl_list.proofs.AscendingLaws.{in_cases, in_head, in_none, in_tail}

pub no_less : 1 ≤ 0 → ⊥
no_less h = omega arith

pub same_front : {A : Type 0} (x y : A) (xs ys : List A) → x ∷ xs ≡ y ∷ ys → (x ≡ y) × (xs ≡ ys)
same_front x y xs ys e = (cc, cc)

pub same_only : {A : Type 0} (x y : A) → x ∷ [] ≡ y ∷ [] → x ≡ y
same_only x y e = cc

pub nothing_else : {A : Type 0} (x : A) (xs : List A) → [] ≡ x ∷ xs → ⊥
nothing_else x xs e = cc

-- the only element of a list
pub only_one : {X : Type 0} (xs : List X) (z y : X) → xs ≡ z ∷ [] → Contains xs y → z ≡ y
only_one xs z y e m =
    elim (in_cases z [] y (subst (λ ys. Contains ys y) e m)) [ inl s ↦ s | inr n ↦ absurd (in_none y n) ]

pub some_of : {X : Type 0} (xs : List X) → 1 ≤ length xs → (x : X) × Contains xs x
some_of [] n = absurd (no_less n)
some_of (x ∷ xs) n = (x, in_head x xs)

pub one_at_least : {X : Type 0} (xs : List X) (x : X) → Contains xs x → 1 ≤ length xs
one_at_least [] x m = absurd (in_none x m)
one_at_least (y ∷ xs) x m = omega arith

-- where a test passes all of a list, it passes each element
pub passes : {X : Type 0} (test : X → Bool) (xs : List X) (x : X) → list_all test xs ≡ true → Contains xs x → test x ≡ true
passes test [] x h m = absurd (in_none x m)
passes test (y ∷ xs) x h m =
    let parts = and_parts (test y) (list_all test xs) h in
    elim (in_cases y xs x m) [ inl e ↦ subst (λ z. test z ≡ true) e parts.0 | inr n ↦ passes test xs x parts.1 n ]

-- what passes a test that some element of a list makes
pub record Passing {X : Type 0} (test : X → Bool) (xs : List X) : Type 0 where
  pub element : X
  pub inside : Contains xs element
  pub passes : test element ≡ true

pub some_passes : {X : Type 0} (test : X → Bool) (xs : List X) → list_any test xs ≡ true → Passing test xs
some_passes test [] h = cc
some_passes test (x ∷ xs) h =
    elim (or_cases (test x) (list_any test xs) h) [
      | inl t ↦ record { element = x; inside = in_head x xs; passes = t }
      | inr k ↦ let p = some_passes test xs k in record { element = p.element; inside = in_tail x xs p.element p.inside; passes = p.passes }
    ]
