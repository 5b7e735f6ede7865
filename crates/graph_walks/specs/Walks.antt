-- Walks along pairs, and what they lead to. In a graph with so many nodes these are the numbers below.
use Rattle.std.specs.Prelude.{◌<◌, ℕ, List, ◌++◌, map, Contains}

-- from the one to the other by some of the pairs, one behind the other; by none, from each to itself
pub data Walks {P : Type 0} (pairs : List (P × P)) : P → P → Type 0 where
  here : (x : P) → Walks pairs x x
  onward : (x y z : P) → Walks pairs x y → Contains pairs (y, z) → Walks pairs x z

-- a walk leads to it from one of these
pub record IsReached {P : Type 0} (pairs : List (P × P)) (starts : List P) (x : P) : Type 0 where
  pub start : P
  pub among : Contains starts start
  pub way : Walks pairs start x

-- these are pairs of nodes of a graph with so many
abbrev pub AreWithin : ℕ → List (ℕ × ℕ) → Type 0
AreWithin nodes pairs = (x y : ℕ) → Contains pairs (x, y) → (x < nodes) × (y < nodes)

-- each pair turned round
abbrev pub backwards : {P : Type 0} → List (P × P) → List (P × P)
backwards {P} pairs = map (λ (pair : P × P). (pair.1, pair.0)) pairs

-- the pairs in either direction
abbrev pub both_ways : {P : Type 0} → List (P × P) → List (P × P)
both_ways pairs = backwards pairs ++ pairs
