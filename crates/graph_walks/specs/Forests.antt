-- Forests.
use Rattle.std.specs.Prelude.{◌≡◌, ℕ, List, Some, Contains, slice_get}
use Rattle.graph_walks.specs.Rings.{ClosesRing, without}
use Rattle.graph_walks.specs.Walks.{Walks, both_ways}

-- pairs of a child and its parent, which make these links a forest
pub record IsForest {P : Type 0} (links parents : List (P × P)) : Type 0 where
  -- a child has one parent
  pub single : (child x y : P) → Contains parents (child, x) → Contains parents (child, y) → x ≡ y
  -- no node is above itself
  pub acyclic : (child parent : P) → Contains parents (child, parent) → Walks parents parent child → ⊥
  -- each link is between a child and its parent, and they are linked
  pub between : (x y : P) → Contains links (x, y) → Contains (both_ways parents) (x, y)
  pub linked : (child parent : P) → Contains parents (child, parent) → Contains (both_ways links) (child, parent)
  -- no two links are between the same two
  pub apart : (place : ℕ) (x y : P) → slice_get links place ≡ Some (x, y) → Contains (both_ways (without place links)) (x, y) → ⊥

pub record HasForest {P : Type 0} (links : List (P × P)) : Type 0 where
  pub parents : List (P × P)
  pub is : IsForest links parents

-- no link closes a ring
abbrev pub HasNoRing : {P : Type 0} → List (P × P) → Type 0
HasNoRing {P} links = (place : ℕ) (link : P × P) → slice_get links place ≡ Some link → ClosesRing links place link → ⊥
