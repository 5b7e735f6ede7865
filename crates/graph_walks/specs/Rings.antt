-- Links that close a ring. A link joins two nodes in either direction, and there may be many of the same two.
use Rattle.std.specs.Prelude.{◌≡◌, ◌<◌, ◌+◌, ◌++◌, ◌⊎◌, ℕ, false, List, length, take, drop, slice_index, slice_index_or}
use Rattle.graph_walks.specs.Parts.{is_level}
use Rattle.graph_walks.specs.Walks.{Walks, both_ways}

-- the links but that in this place
abbrev pub without : {P : Type 0} → ℕ → List (P × P) → List (P × P)
without place links = take place links ++ drop (place + 1) links

-- the links but that in this place join its ends; those of a loop are joined by none
abbrev pub ClosesRing : {P : Type 0} → List (P × P) → ℕ → P × P → Type 0
ClosesRing links place link = Walks (both_ways (without place links)) link.0 link.1

abbrev pub link_at : List (ℕ × ℕ) → ℕ → ℕ × ℕ
link_at links place = slice_index_or links place (0, 0)

-- it is the link, or the link turned round
abbrev pub IsTurned : ℕ × ℕ → ℕ × ℕ → Type 0
IsTurned link turned = (turned ≡ link) ⊎ (turned ≡ (link.1, link.0))

-- each of the links, as it is or turned round
pub record AreTurned (links turned : List (ℕ × ℕ)) : Type 0 where
  pub size : length turned ≡ length links
  pub told : (place : ℕ) → place < length turned → IsTurned (link_at links place) (link_at turned place)

-- where the pair leads into another part, this is the place that is noted for that part
abbrev pub IsEntry : List ℕ → List ℕ → ℕ × ℕ → ℕ → Type 0
IsEntry numbers entries pair place = is_level numbers pair ≡ false → slice_index entries (slice_index numbers pair.1) ≡ place

-- so it is of all the pairs
abbrev pub AreEntries : List ℕ → List ℕ → List (ℕ × ℕ) → Type 0
AreEntries numbers entries pairs = (place : ℕ) → place < length pairs → IsEntry numbers entries (link_at pairs place) place

-- into each part leads one pair at most from another
abbrev pub EnteredOnce : List ℕ → List (ℕ × ℕ) → Type 0
EnteredOnce numbers pairs = (j k : ℕ) → j < length pairs → k < length pairs → is_level numbers (link_at pairs j) ≡ false → is_level numbers (link_at pairs k) ≡ false →
    slice_index numbers (link_at pairs j).1 ≡ slice_index numbers (link_at pairs k).1 → j ≡ k
