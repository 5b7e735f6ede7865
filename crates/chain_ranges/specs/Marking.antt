-- Marks of the chains that lack a range, some classes at a time.
use Rattle.std.specs.Prelude.{◌≡◌, ◌<◌, ◌↔◌, ◌⊎◌, not, ℕ, Bool, true, false, List, length, Contains, bit_or, nat_eq, slice_index, slice_index_or}
use Rattle.graph_walks.specs.Edges.{successors}
use Rattle.graph_walks.specs.Walks.{IsReached}

abbrev pub pair_at : List (ℕ × ℕ) → ℕ → ℕ × ℕ
pair_at pairs place = slice_index_or pairs place (0, 0)

-- the set of the second of the pair has what that of the first hasn't
abbrev pub lacks : List ℕ → ℕ × ℕ → Bool
lacks sets chain = not (nat_eq (bit_or (slice_index sets chain.1) (slice_index sets chain.0)) (slice_index sets chain.0))

-- from the nodes of one of the classes the second of the pair is reached, and the first isn't
pub record ReachesSecond (pairs : List (ℕ × ℕ)) (holders : List (List ℕ)) (classes : List ℕ) (chain : ℕ × ℕ) : Type 0 where
  pub class : ℕ
  pub among : Contains classes class
  pub second : IsReached pairs (successors holders class) chain.1
  pub first : IsReached pairs (successors holders class) chain.0 → ⊥

-- marks of chains, and what they are with those of which only the second is reached
pub record AddsReaching (pairs : List (ℕ × ℕ)) (holders : List (List ℕ)) (classes : List ℕ) (chains : List (ℕ × ℕ)) (old new : List Bool) : Type 0 where
  pub size : length new ≡ length old
  pub told : (place : ℕ) → place < length chains →
      (slice_index_or new place false ≡ true) ↔ ((slice_index_or old place false ≡ true) ⊎ ReachesSecond pairs holders classes (pair_at chains place))
