-- The nodes that a search has found.
use Rattle.std.specs.Prelude.{◌≡◌, ◌<◌, ◌↔◌, ℕ, true, false, List, ◌++◌, length, Contains, slice_index_or}
use Rattle.graph_walks.specs.Walks.{IsReached}
use Rattle.graph_walks.specs.declared.found.Found.{Found}

-- the marks tell which nodes were found
abbrev pub IsTold : Found → Type 0
IsTold found = (node : ℕ) → (slice_index_or found.marks.items node false ≡ true) ↔ Contains found.nodes.items node

-- what is found further: those of these numbers that are nodes, and weren't found
pub record Finds (nexts : List ℕ) (old new : Found) : Type 0 where
  pub told : IsTold new
  pub graph : length new.marks.items ≡ length old.marks.items
  pub more : List ℕ
  pub grown : new.nodes.items ≡ old.nodes.items ++ more
  pub among : (node : ℕ) → Contains more node → Contains nexts node
  pub all : (node : ℕ) → Contains nexts node → node < length new.marks.items → Contains new.nodes.items node

-- of so many nodes those to which walks lead from some of these
pub record HoldsReached (count : ℕ) (pairs : List (ℕ × ℕ)) (starts nodes : List ℕ) : Type 0 where
  pub reached : (node : ℕ) → Contains nodes node → IsReached pairs starts node
  pub all : (node : ℕ) → node < count → IsReached pairs starts node → Contains nodes node
