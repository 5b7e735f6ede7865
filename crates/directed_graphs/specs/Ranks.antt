-- Ranks of nodes, and how edges go by them.
use Rattle.std.specs.Prelude.{◌<◌, ◌≤◌, ℕ, List, length, Contains, slice_index}
use Rattle.std.specs.List.{range_with_len}
use Rattle.std.specs.List.Sorted.{IsNonDecreasingBy, IsPermutation}
use Rattle.directed_graphs.specs.Cycles.{successors}

-- 0, where it is no node
abbrev pub rank_in : List ℕ → ℕ → ℕ
rank_in ranks node = slice_index ranks node

-- all edges of the node lead to ranks below its own
abbrev pub GoesDown : List (List ℕ) → List ℕ → ℕ → Type 0
GoesDown edges ranks node = (next : ℕ) → Contains (successors edges node) next → rank_in ranks next < rank_in ranks node

abbrev pub AllGoDown : List (List ℕ) → List ℕ → Type 0
AllGoDown edges ranks = (node : ℕ) → node < length edges → GoesDown edges ranks node

-- no edge of the node leads to a rank above its own
abbrev pub NeverGoesUp : List (List ℕ) → List ℕ → ℕ → Type 0
NeverGoesUp edges ranks node = (next : ℕ) → Contains (successors edges node) next → rank_in ranks next ≤ rank_in ranks node

abbrev pub NoneGoesUp : List (List ℕ) → List ℕ → Type 0
NoneGoesUp edges ranks = (node : ℕ) → node < length edges → NeverGoesUp edges ranks node

-- so many nodes, in the order of their ranks
pub record AreByRank (ranks : List ℕ) (count : ℕ) (nodes : List ℕ) : Type 0 where
  pub all : IsPermutation (range_with_len 0 count) nodes
  pub ascending : IsNonDecreasingBy (rank_in ranks) nodes
