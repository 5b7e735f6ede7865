-- Laws of walks.
use Rattle.std.proofs.Common.{◌≡◌, ◌<◌, ◌⊎◌, inl, inr, ℕ, List, [], ◌∷◌, ◌++◌, refl, sym, ap, subst}
use Rattle.std.specs.Prelude.{Contains}
use Rattle.std.proofs.lemmas.List.Elements.{Contains-append_cases, Contains-append_left, Contains-append_right}
use Rattle.owl_list.proofs.AscendingLaws.{from_map, in_cases, in_head, in_map, in_none}
use Rattle.graph_walks.specs.Walks.{AreWithin, IsReached, Walks, backwards, both_ways, here, onward}

module _ {P : Type 0} (pairs : List (P × P)) where
  pub one_step : (x y : P) → Contains pairs (x, y) → Walks pairs x y
  one_step x y step = onward x x y (here x) step

  pub walk_on : (x y z : P) → Walks pairs x y → Walks pairs y z → Walks pairs x z
  walk_on x y z first (here _) = first
  walk_on x y z first (onward _ m _ way step) = onward x m z (walk_on x y m first way) step

  -- what each pair keeps, walks keep
  pub walk_keeps : (H : P → Type 0) → ((x y : P) → Contains pairs (x, y) → H x → H y) → (x y : P) → Walks pairs x y → H x → H y
  walk_keeps H keeps x y (here _) h = h
  walk_keeps H keeps x y (onward _ m _ way step) h = keeps m y step (walk_keeps H keeps x m way h)

-- a walk of one step or more begins with one
pub record BeginsWith {P : Type 0} (pairs : List (P × P)) (x z : P) : Type 0 where
  pub next : P
  pub step : Contains pairs (x, next)
  pub rest : Walks pairs next z

pub first_step : {P : Type 0} (pairs : List (P × P)) (x z : P) → Walks pairs x z → (x ≡ z) ⊎ BeginsWith pairs x z
first_step pairs x z (here _) = inl refl
first_step {P} pairs x z (onward _ m _ way step) =
    elim (first_step pairs x m way) as (λ _. (x ≡ z) ⊎ BeginsWith pairs x z) [
      | inl same ↦ inr (record { next = z; step = subst (λ (p : P). Contains pairs (p, z)) (sym same) step; rest = here z })
      | inr begins ↦ inr (record { next = begins.next; step = begins.step; rest = onward begins.next m z begins.rest step })
    ]

-- a walk along some pairs is one along more
pub walk_among : {P : Type 0} (some all : List (P × P)) → ((x y : P) → Contains some (x, y) → Contains all (x, y)) → (x y : P) → Walks some x y → Walks all x y
walk_among some all among x y (here _) = here x
walk_among some all among x y (onward _ m _ way step) =
    onward x m y (walk_among some all among x m way) (among m y step)

-- and back along these turned round
pub walk_back : {P : Type 0} (some all : List (P × P)) → ((x y : P) → Contains some (x, y) → Contains all (y, x)) → (x y : P) → Walks some x y → Walks all y x
walk_back some all turned x y (here _) = here x
walk_back some all turned x y (onward _ m _ way step) =
    walk_on all y m x (one_step all y m (turned m y step)) (walk_back some all turned x m way)

abbrev flip : {P : Type 0} → P × P → P × P
flip pair = (pair.1, pair.0)

-- pairs that are turned round
pub from_backwards : {P : Type 0} (pairs : List (P × P)) (x y : P) → Contains (backwards pairs) (x, y) → Contains pairs (y, x)
from_backwards {P} pairs x y m =
    let v = from_map (flip {P = P}) pairs (x, y) m in
    subst (λ (q : P × P). Contains pairs q) (ap (flip {P = P}) v.value) v.inside

pub to_backwards : {P : Type 0} (pairs : List (P × P)) (x y : P) → Contains pairs (x, y) → Contains (backwards pairs) (y, x)
to_backwards {P} pairs x y m = in_map (flip {P = P}) pairs (x, y) m

module _ {P : Type 0} (links : List (P × P)) where
  pub from_both : (x y : P) → Contains (both_ways links) (x, y) → Contains links (x, y) ⊎ Contains links (y, x)
  from_both x y m = elim (Contains-append_cases (backwards links) links (x, y) m) [
    | inl n ↦ inr (from_backwards links x y n)
    | inr n ↦ inl n
  ]

  pub both_forth : (x y : P) → Contains links (x, y) → Contains (both_ways links) (x, y)
  both_forth x y m = Contains-append_right (backwards links) links (x, y) m

  pub both_back : (x y : P) → Contains links (x, y) → Contains (both_ways links) (y, x)
  both_back x y m = Contains-append_left (backwards links) links (y, x) (to_backwards links x y m)

  pub both_turned : (x y : P) → Contains (both_ways links) (x, y) → Contains (both_ways links) (y, x)
  both_turned x y m = elim (from_both x y m) [ inl n ↦ both_back x y n | inr n ↦ both_forth y x n ]

  -- by links in either direction a walk leads back
  pub joined_back : (x y : P) → Walks (both_ways links) x y → Walks (both_ways links) y x
  joined_back x y way = walk_back (both_ways links) (both_ways links) both_turned x y way

-- where some links are among others, in either direction
pub both_among : {P : Type 0} (some all : List (P × P)) → ((x y : P) → Contains some (x, y) → Contains (both_ways all) (x, y)) → (x y : P) → Contains (both_ways some) (x, y) → Contains (both_ways all) (x, y)
both_among some all among x y m = elim (from_both some x y m) [
  | inl n ↦ among x y n
  | inr n ↦ both_turned all y x (among y x n)
]

pub backwards_within : (nodes : ℕ) (pairs : List (ℕ × ℕ)) → AreWithin nodes pairs → AreWithin nodes (backwards pairs)
backwards_within nodes pairs within =
    λ x y m.
    let h = within y x (from_backwards pairs x y m) in
    (h.1, h.0)

pub both_within : (nodes : ℕ) (pairs : List (ℕ × ℕ)) → AreWithin nodes pairs → AreWithin nodes (both_ways pairs)
both_within nodes pairs within =
    λ x y m. elim (from_both pairs x y m) as (λ _. (x < nodes) × (y < nodes)) [
      | inl n ↦ within x y n
      | inr n ↦ let h = within y x n in (h.1, h.0)
    ]

pub among_within : (nodes : ℕ) (some all : List (ℕ × ℕ)) → ((x y : ℕ) → Contains some (x, y) → Contains all (x, y)) → AreWithin nodes all → AreWithin nodes some
among_within nodes some all among within = λ x y m. within x y (among x y m)

pub together_within : (nodes : ℕ) (these those : List (ℕ × ℕ)) → AreWithin nodes these → AreWithin nodes those → AreWithin nodes (these ++ those)
together_within nodes these those a b =
    λ x y m. elim (Contains-append_cases these those (x, y) m) as (λ _. (x < nodes) × (y < nodes)) [
      | inl n ↦ a x y n
      | inr n ↦ b x y n
    ]

-- from one node alone, a walk leads where it is reached
pub from_one : {P : Type 0} (pairs : List (P × P)) (start x : P) → IsReached pairs (start ∷ []) x → Walks pairs start x
from_one {P} pairs start x r = elim (in_cases start [] r.start r.among) [
  | inl e ↦ subst (λ (p : P). Walks pairs p x) (sym e) r.way
  | inr n ↦ absurd (in_none r.start n)
]

pub to_one : {P : Type 0} (pairs : List (P × P)) (start x : P) → Walks pairs start x → IsReached pairs (start ∷ []) x
to_one pairs start x way = record { start = start; among = in_head start []; way = way }
