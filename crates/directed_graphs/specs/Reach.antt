-- How many nodes ways lead to.
use Rattle.std.specs.Prelude.{◌≡◌, ◌<◌, ℕ, Bool, List, length, slice_index}
use Rattle.std.specs.List.{count_by}
use Rattle.graph_walks.specs.Marks.{MarkNumbers}
use Rattle.directed_graphs.specs.Cycles.{Leads}

-- so many nodes there are to which ways lead from this one
pub record CountsReached (edges : List (List ℕ)) (from count : ℕ) : Type 0 where
  pub marks : List Bool
  pub each : MarkNumbers (length edges) (Leads edges from) marks
  pub many : count_by (λ mark. mark) marks ≡ count

-- for each node the number of those to which ways lead from it
abbrev pub AreReachCounts : List (List ℕ) → List ℕ → Type 0
AreReachCounts edges counts = (node : ℕ) → node < length counts → CountsReached edges node (slice_index counts node)
