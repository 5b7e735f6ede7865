-- Elements that all differ, among those of a list, are not more than it has.
use Rattle.std.proofs.Common.{◌≡◌, ◌≤◌, List, [], ◌∷◌, ◌++◌, length, inl, inr, sym, ap, subst, arith}
use Rattle.std.specs.Prelude.{Contains}
use Rattle.std.proofs.lemmas.List.{length-append}
use Rattle.std.proofs.lemmas.List.Elements.{Contains-append_cases, Contains-append_left, Contains-append_right}
use Rattle.owl_list.specs.Ascending.{AreApart}
use Rattle.owl_list.proofs.AscendingLaws.{in_cases, in_head, in_none, in_tail}

module _ {X : Type 0} where
  -- what stands before an element, and behind it
  record IsAround (ys : List X) (y : X) : Type 0 where
    before : List X
    behind : List X
    is : ys ≡ before ++ y ∷ behind

  around : (ys : List X) (y : X) → Contains ys y → IsAround ys y
  around [] y m = absurd (in_none y m)
  around (z ∷ ys) y m =
      elim (in_cases z ys y m) [
        | inl e ↦ record { before = []; behind = ys; is = ap (λ (w : X). w ∷ ys) e }
        | inr n ↦ let a = around ys y n in record { before = z ∷ a.before; behind = a.behind; is = ap (λ (l : List X). z ∷ l) a.is }
      ]

  pub within_length : (xs ys : List X) → AreApart xs → ((x : X) → Contains xs x → Contains ys x) → length xs ≤ length ys
  within_length [] ys a h = omega arith
  within_length (x ∷ xs) ys a h =
      let there = around ys x (h x (in_head x xs)) in
      let others = there.before ++ there.behind in
      let rest = within_length xs others a.1 (λ z m.
      elim (Contains-append_cases there.before (x ∷ there.behind) z (subst (λ (l : List X). Contains l z) there.is (h z (in_tail x xs z m)))) [
        | inl b ↦ Contains-append_left there.before there.behind z b
        | inr c ↦
            elim (in_cases x there.behind z c) [
              | inl e ↦ absurd (a.0 (subst (Contains xs) (sym e) m))
              | inr d ↦ Contains-append_right there.before there.behind z d
            ]
      ]) in
      let whole = ap length there.is in
      let with = length-append there.before (x ∷ there.behind) in
      let without = length-append there.before there.behind in
      omega (arith, rest, whole, with, without)
