-- Laws of a fact that holds of one element of a list, and of tests that tell of it.
use Rattle.std.proofs.Common.{◌≡◌, ◌⊎◌, inl, inr, Bool, true, false, ◌||◌, List, [], ◌∷◌, ◌++◌, Option, None, Some, map, sym, ◌∙◌, subst}
use Rattle.std.specs.Prelude.{◌↔◌}
use Rattle.std.specs.List.{AllByRecursion, cons_option, filter_map, flat_map, list_any}
use Rattle.std.proofs.Math.Logic.{⊎_map}
use Rattle.std.proofs.lemmas.Bool.{false≢true, or_cases, or_left, or_right}
use Rattle.std.proofs.lemmas.List.Elements.{Contains-append_cases, Contains-append_left, Contains-append_right}
use Rattle.owl_list.proofs.AscendingLaws.{in_cases, in_head, in_none, in_tail}
use Rattle.owl_breaches.specs.Those.{HoldsOfOne, HoldsOfSome}

pub through : {A B C : Type 0} → (A ↔ B) → (B ↔ C) → A ↔ C
through h k = (λ a. k.0 (h.0 a), λ c. h.1 (k.1 c))

pub turned : {A B : Type 0} → (A ↔ B) → B ↔ A
turned h = (h.1, h.0)

either : {A B C D : Type 0} → (A ↔ B) → (C ↔ D) → (A ⊎ C) ↔ (B ⊎ D)
either h k = (⊎_map h.0 k.0, ⊎_map h.1 k.1)

-- what is false tells of what does not hold
pub never : {A : Type 0} → (A → ⊥) → (false ≡ true) ↔ A
never h = (λ e. absurd (false≢true e), λ a. absurd (h a))

-- a test with the answer of another tells of the same
pub told_as : {A : Type 0} {a b : Bool} → a ≡ b → (b ≡ true) ↔ A → (a ≡ true) ↔ A
told_as e h = (λ t. h.0 (sym e ∙ t), λ x. e ∙ h.1 x)

pub told_either : {A B : Type 0} (a b : Bool) → (a ≡ true) ↔ A → (b ≡ true) ↔ B → ((a || b) ≡ true) ↔ (A ⊎ B)
told_either a b h k = through (or_cases a b, λ s. elim s [ inl e ↦ or_left a b e | inr e ↦ or_right a b e ]) (either h k)

module _ {X : Type 0} (Holds : X → Type 0) where
  pub one_of_none : HoldsOfOne Holds [] → ⊥
  one_of_none h = in_none h.one h.among

  pub one_of_more : (x : X) (xs : List X) → HoldsOfOne Holds (x ∷ xs) ↔ (Holds x ⊎ HoldsOfOne Holds xs)
  one_of_more x xs = (
    λ h. elim (in_cases x xs h.one h.among) as (λ _. Holds x ⊎ HoldsOfOne Holds xs) [
      | inl e ↦ inl (subst Holds (sym e) h.holds)
      | inr m ↦ inr (record { one = h.one; among = m; holds = h.holds })
    ],
    λ s. elim s as (λ _. HoldsOfOne Holds (x ∷ xs)) [
      | inl h ↦ record { one = x; among = in_head x xs; holds = h }
      | inr h ↦ record { one = h.one; among = in_tail x xs h.one h.among; holds = h.holds }
    ],
  )

  one_of_both : (xs ys : List X) → HoldsOfOne Holds (xs ++ ys) ↔ (HoldsOfOne Holds xs ⊎ HoldsOfOne Holds ys)
  one_of_both xs ys = (
    λ h. elim (Contains-append_cases xs ys h.one h.among) as (λ _. HoldsOfOne Holds xs ⊎ HoldsOfOne Holds ys) [
      | inl m ↦ inl (record { one = h.one; among = m; holds = h.holds })
      | inr m ↦ inr (record { one = h.one; among = m; holds = h.holds })
    ],
    λ s. elim s as (λ _. HoldsOfOne Holds (xs ++ ys)) [
      | inl h ↦ record { one = h.one; among = Contains-append_left xs ys h.one h.among; holds = h.holds }
      | inr h ↦ record { one = h.one; among = Contains-append_right xs ys h.one h.among; holds = h.holds }
    ],
  )

  pub one_of_single : (x : X) → HoldsOfOne Holds (x ∷ []) ↔ Holds x
  one_of_single x = (
    λ h. elim ((one_of_more x []).0 h) as (λ _. Holds x) [ inl k ↦ k | inr k ↦ absurd (one_of_none k) ],
    λ h. (one_of_more x []).1 (inl h),
  )

  one_of_option : (o : Option X) (xs : List X) → (HoldsOfSome Holds o ⊎ HoldsOfOne Holds xs) ↔ HoldsOfOne Holds (cons_option o xs)
  one_of_option None xs = (λ s. elim s as (λ _. HoldsOfOne Holds xs) [ inl h ↦ absurd h | inr h ↦ h ], λ h. inr h)
  one_of_option (Some x) xs = turned (one_of_more x xs)

module _ {X Y : Type 0} (Holds : Y → Type 0) where
  pub one_of_flat : (f : X → List Y) (xs : List X) → HoldsOfOne (λ x. HoldsOfOne Holds (f x)) xs ↔ HoldsOfOne Holds (flat_map f xs)
  one_of_flat f [] = (λ h. absurd (one_of_none (λ x. HoldsOfOne Holds (f x)) h), λ h. absurd (one_of_none Holds h))
  one_of_flat f (x ∷ xs) =
      through (one_of_more (λ x. HoldsOfOne Holds (f x)) x xs)
      (through (either ((λ h. h), (λ h. h)) (one_of_flat f xs)) (turned (one_of_both Holds (f x) (flat_map f xs))))

  pub one_of_filtered : (f : X → Option Y) (xs : List X) → HoldsOfOne (λ x. HoldsOfSome Holds (f x)) xs ↔ HoldsOfOne Holds (filter_map f xs)
  one_of_filtered f [] = (λ h. absurd (one_of_none (λ x. HoldsOfSome Holds (f x)) h), λ h. absurd (one_of_none Holds h))
  one_of_filtered f (x ∷ xs) =
      through (one_of_more (λ x. HoldsOfSome Holds (f x)) x xs)
      (through (either ((λ h. h), (λ h. h)) (one_of_filtered f xs)) (one_of_option Holds (f x) (filter_map f xs)))

  -- a test that tells of each element tells of one of them
  pub told_any : (test : X → Bool) (f : X → Y) (xs : List X) → AllByRecursion (λ x. (test x ≡ true) ↔ Holds (f x)) xs → (list_any test xs ≡ true) ↔ HoldsOfOne Holds (map f xs)
  told_any test f [] told = never (one_of_none Holds)
  told_any test f (x ∷ xs) told =
      through (told_either (test x) (list_any test xs) told.0 (told_any test f xs told.1))
      (turned (one_of_more Holds (f x) (map f xs)))
