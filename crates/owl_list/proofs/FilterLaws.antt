-- The elements of a list that pass a test, and what a function gives of those of which it gives something.
use Rattle.std.specs.Prelude.{◌≡◌, ◌⊎◌, Bool, true, false, cond, List, [], ◌∷◌, Contains, Option, None, Some}
use Rattle.std.specs.List.{cons_option, filter, filter_map}
use Rattle.std.proofs.Common.{inl, inr, sym, ap, ◌∙◌, subst}
use Rattle.std.proofs.lemmas.Bool.{cases_Bool}
use Rattle.std.proofs.lemmas.Option.{none-some, same_Some}
use Rattle.owl_list.proofs.AscendingLaws.{in_cases, in_head, in_none, in_tail}

module _ {X : Type 0} (test : X → Bool) where
  kept : (b : Bool) (x : X) (xs : List X) → test x ≡ b → filter test (x ∷ xs) ≡ cond b (x ∷ filter test xs) (filter test xs)
  kept b x xs e = ap (λ (c : Bool). cond c (x ∷ filter test xs) (filter test xs)) e

  pub in_filter : (xs : List X) (x : X) → Contains xs x → test x ≡ true → Contains (filter test xs) x
  in_filter [] x m h = absurd (in_none x m)
  in_filter (y ∷ xs) x m h =
      elim (in_cases y xs x m) [
        | inl e ↦
            let same : test y ≡ true = subst (λ z. test z ≡ true) (sym e) h in
            subst (λ ys. Contains ys x) (sym (kept true y xs same)) (subst (λ z. Contains (y ∷ filter test xs) z) e (in_head y (filter test xs)))
        | inr n ↦
            elim (cases_Bool (test y)) [
              | inl t ↦ subst (λ ys. Contains ys x) (sym (kept true y xs t)) (in_tail y (filter test xs) x (in_filter xs x n h))
              | inr f ↦ subst (λ ys. Contains ys x) (sym (kept false y xs f)) (in_filter xs x n h)
            ]
      ]

  -- what is kept is an element that passes
  pub record IsKept (xs : List X) (x : X) : Type 0 where
    pub inside : Contains xs x
    pub passes : test x ≡ true

  pub from_filter : (xs : List X) (x : X) → Contains (filter test xs) x → IsKept xs x
  from_filter [] x m = absurd (in_none x m)
  from_filter (y ∷ xs) x m =
      elim (cases_Bool (test y)) [
        | inl t ↦
            elim (in_cases y (filter test xs) x (subst (λ ys. Contains ys x) (kept true y xs t) m)) [
              | inl e ↦ record { inside = subst (λ z. Contains (y ∷ xs) z) e (in_head y xs); passes = subst (λ z. test z ≡ true) e t }
              | inr n ↦ let k = from_filter xs x n in record { inside = in_tail y xs x k.inside; passes = k.passes }
            ]
        | inr f ↦
            let k = from_filter xs x (subst (λ ys. Contains ys x) (kept false y xs f) m) in
            record { inside = in_tail y xs x k.inside; passes = k.passes }
      ]

by_head : {Y : Type 0} (o : Option Y) (ys : List Y) (y : Y) → Contains (cons_option o ys) y → (o ≡ Some y) ⊎ Contains ys y
by_head None ys y m = inr m
by_head {Y} (Some z) ys y m = elim (in_cases z ys y m) [ inl e ↦ inl (ap (λ (x : Y). Some x) e) | inr n ↦ inr n ]

to_head : {Y : Type 0} (o : Option Y) (ys : List Y) (y : Y) → o ≡ Some y → Contains (cons_option o ys) y
to_head None ys y e = absurd (none-some y e)
to_head (Some z) ys y e = subst (Contains (z ∷ ys)) (same_Some z y e) (in_head z ys)

to_tail : {Y : Type 0} (o : Option Y) (ys : List Y) (y : Y) → Contains ys y → Contains (cons_option o ys) y
to_tail None ys y m = m
to_tail (Some z) ys y m = in_tail z ys y m

module _ {X Y : Type 0} (f : X → Option Y) where
  -- it is given of some element
  pub record IsGivenOf (xs : List X) (y : Y) : Type 0 where
    pub element : X
    pub inside : Contains xs element
    pub gives : f element ≡ Some y

  pub from_filter_map : (xs : List X) (y : Y) → Contains (filter_map f xs) y → IsGivenOf xs y
  from_filter_map [] y m = absurd (in_none y m)
  from_filter_map (x ∷ xs) y m =
      elim (by_head (f x) (filter_map f xs) y m) [
        | inl e ↦ record { element = x; inside = in_head x xs; gives = e }
        | inr n ↦ let g = from_filter_map xs y n in record { element = g.element; inside = in_tail x xs g.element g.inside; gives = g.gives }
      ]

  pub in_filter_map : (xs : List X) (x : X) (y : Y) → Contains xs x → f x ≡ Some y → Contains (filter_map f xs) y
  in_filter_map [] x y m e = absurd (in_none x m)
  in_filter_map (z ∷ xs) x y m e =
      elim (in_cases z xs x m) [
        | inl same ↦ to_head (f z) (filter_map f xs) y (ap f same ∙ e)
        | inr n ↦ to_tail (f z) (filter_map f xs) y (in_filter_map xs x y n e)
      ]
