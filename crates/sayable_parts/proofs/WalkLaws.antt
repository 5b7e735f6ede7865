-- What is first to be said along a list of numbers, as the trees of an arena have, and how far such a list goes.
use Rattle.std.proofs.Common.{◌≡◌, ◌<◌, ◌≤◌, ◌+◌, ℕ, suc, max, List, [], ◌∷◌, ◌++◌, Option, None, Some, arith, drop, drop-cons, get_or, length, refl, sym, ap, ◌∙◌, take, zero}
use Rattle.std.specs.List.{AllByRecursion}
use Rattle.std.specs.Option.{option_or}
use Rattle.std.proofs.lemmas.List.{take-append-drop, take_all, take_more}
use Rattle.std.proofs.lemmas.Option.{none-some}
use Rattle.sayable_parts.specs.Reasons.{Objection}

-- ---- the first of two

pub or_none : (o : Option Objection) → option_or o None ≡ o
or_none None = refl
or_none (Some why) = refl

pub or_assoc : (a b c : Option Objection) → option_or a (option_or b c) ≡ option_or (option_or a b) c
or_assoc None b c = refl
or_assoc (Some why) b c = refl

pub neither : (a b : Option Objection) → option_or a b ≡ None → (a ≡ None) × (b ≡ None)
neither None b e = (refl, e)
neither (Some why) b e = absurd (none-some why (sym e))

-- ---- the first along a list

-- the least number above all of the list
abbrev pub above : List ℕ → ℕ
above [] = 0
above (id ∷ ids) = max (suc id) (above ids)

pub above_within : (bound : ℕ) (ids : List ℕ) → AllByRecursion (λ id. id < bound) ids → above ids ≤ bound
above_within bound [] h = omega arith
above_within bound (id ∷ ids) h = omega (arith, h.0, above_within bound ids h.1)

pub above_each : (ids : List ℕ) (place d : ℕ) → place < length ids → get_or ids place d < above ids
above_each [] place d h = absurd (omega arith)
above_each (id ∷ ids) zero d h = omega arith
above_each (id ∷ ids) (suc place) d h = omega (arith, above_each ids place d (omega arith))

-- where this is to be said of each number
module _ (of : ℕ → Option Objection) where
  abbrev pub first_along : List ℕ → Option Objection
  first_along [] = None
  first_along (id ∷ ids) = option_or (of id) (first_along ids)

  first_of_both : (front rest : List ℕ) → first_along (front ++ rest) ≡ option_or (first_along front) (first_along rest)
  first_of_both [] rest = refl
  first_of_both (id ∷ front) rest = ap (λ (o : Option Objection). option_or (of id) o) (first_of_both front rest) ∙ or_assoc (of id) (first_along front) (first_along rest)

  -- nothing is to be said of the numbers before this one
  abbrev pub AreSaidBefore : ℕ → List ℕ → Type 0
  AreSaidBefore index ids = first_along (take index ids) ≡ None

  -- numbers, one of them, and the others
  split_along : (front : List ℕ) (id : ℕ) (rest : List ℕ) → first_along front ≡ None → first_along (front ++ id ∷ rest) ≡ option_or (of id) (first_along rest)
  split_along front id rest none = first_of_both front (id ∷ rest) ∙ ap (λ (o : Option Objection). option_or o (first_along (id ∷ rest))) none

  pub one_more_said : (ids : List ℕ) (index id : ℕ) → index < length ids → id ≡ get_or ids index id → AreSaidBefore index ids → None ≡ of id → AreSaidBefore (index + 1) ids
  one_more_said ids index id h is before here =
      let more : take (index + 1) ids ≡ take index ids ++ id ∷ [] = take_more ids index id h ∙ ap (λ x. take index ids ++ x ∷ []) (sym is) in
      ap first_along more ∙ split_along (take index ids) id [] before ∙ or_none (of id) ∙ sym here

  pub said_first : (ids : List ℕ) (index id : ℕ) (why : Objection) → index < length ids → id ≡ get_or ids index id → AreSaidBefore index ids → Some why ≡ of id → Some why ≡ first_along ids
  said_first ids index id why h is before here =
      let rest = drop (suc index) ids in
      let parts : take index ids ++ id ∷ rest ≡ ids = ap (λ (xs : List ℕ). take index ids ++ xs) (ap (λ (x : ℕ). x ∷ rest) is ∙ sym (drop-cons ids index id h)) ∙ take-append-drop index ids in
      ap (λ (o : Option Objection). option_or o (first_along rest)) here
      ∙ sym (split_along (take index ids) id rest before)
      ∙ ap first_along parts

  pub all_said : (ids : List ℕ) (index : ℕ) → length ids ≤ index → AreSaidBefore index ids → None ≡ first_along ids
  all_said ids index past before = sym before ∙ ap first_along (take_all index ids past)
