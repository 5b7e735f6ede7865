-- The parts of a graph: two nodes are in one where walks lead from each to the other.
use Rattle.std.specs.Prelude.{◌≡◌, ◌<◌, ◌≤◌, ◌↔◌, ◌==◌, ℕ, Bool, true, false, List, length, Contains, slice_index, slice_index_or}
use Rattle.std.specs.List.{filter}
use Rattle.graph_walks.specs.Walks.{IsReached, Walks}

-- for each node one number, and two nodes have the same exactly where they are in one part
pub record AreParts (nodes : ℕ) (pairs : List (ℕ × ℕ)) (numbers : List ℕ) : Type 0 where
  pub size : length numbers ≡ nodes
  pub told : (x y : ℕ) → x < nodes → y < nodes → (slice_index numbers x ≡ slice_index numbers y) ↔ (Walks pairs x y × Walks pairs y x)

-- whether the two nodes have one number
abbrev pub is_level : List ℕ → ℕ × ℕ → Bool
is_level numbers pair = slice_index numbers pair.0 == slice_index numbers pair.1

-- the pairs of nodes with one number
abbrev pub level : List ℕ → List (ℕ × ℕ) → List (ℕ × ℕ)
level numbers pairs = filter (is_level numbers) pairs

-- no pair leads to a higher number
abbrev pub NoneGoesUp : List (ℕ × ℕ) → List ℕ → Type 0
NoneGoesUp pairs numbers = (x y : ℕ) → Contains pairs (x, y) → slice_index numbers y ≤ slice_index numbers x

-- whether the node is noted for its number
abbrev pub is_head : List ℕ → List ℕ → ℕ → Bool
is_head numbers heads node = slice_index heads (slice_index numbers node) == node

-- no two of these nodes have one number
abbrev pub AreApart : List ℕ → List ℕ → Type 0
AreApart numbers these = (x y : ℕ) → Contains these x → Contains these y → slice_index numbers x ≡ slice_index numbers y → x ≡ y

-- walks lead to each node from some of these
abbrev pub AllReached : ℕ → List (ℕ × ℕ) → List ℕ → Type 0
AllReached nodes pairs starts = (x : ℕ) → x < nodes → IsReached pairs starts x

-- walks lead from the one to the other, and back
abbrev pub AreJoined : List (ℕ × ℕ) → ℕ → ℕ → Type 0
AreJoined pairs x y = Walks pairs x y × Walks pairs y x

-- the least node of the part of this one
pub record IsLeast (pairs : List (ℕ × ℕ)) (node least : ℕ) : Type 0 where
  pub joined : AreJoined pairs node least
  pub first : (other : ℕ) → other < least → AreJoined pairs node other → ⊥

-- both lists have a mark there
abbrev pub AreBoth : List Bool → List Bool → ℕ → Type 0
AreBoth forth back place = (slice_index_or forth place false ≡ true) × (slice_index_or back place false ≡ true)

-- the first place where both lists have a mark; if there is none, that behind the first list
pub record IsFirstOfBoth (forth back : List Bool) (first : ℕ) : Type 0 where
  pub before : (place : ℕ) → place < first → AreBoth forth back place → ⊥
  pub there : first < length forth → AreBoth forth back first
