-- Directed graphs, their cycles, and orders of their nodes.
use Rattle.std.specs.Prelude.{◌<◌, ℕ, List, [], ◌∷◌, length, Contains}
use Rattle.std.specs.List.{range_with_len}
use Rattle.std.specs.List.Sorted.{IsPermutation}
pub use Rattle.graph_walks.specs.Edges.{edges_of, successors}
use Rattle.directed_graphs.specs.declared.order.Order.{Order}
use Rattle.directed_graphs.specs.declared.order.Order.TheVariants.{Of, Cycle}

-- from the one to the other leads a way of one edge or more
pub data Leads (edges : List (List ℕ)) : ℕ → ℕ → Type 0 where
  one_step : (from to : ℕ) → Contains (successors edges from) to → Leads edges from to
  one_more : (from next to : ℕ) → Contains (successors edges from) next → Leads edges next to → Leads edges from to

abbrev pub IsOnCycle : List (List ℕ) → ℕ → Type 0
IsOnCycle edges node = Leads edges node node

abbrev pub HasNoCycle : List (List ℕ) → Type 0
HasNoCycle edges = (node : ℕ) → IsOnCycle edges node → ⊥

-- the least node that is on a cycle
pub record IsFirstOnCycle (edges : List (List ℕ)) (node : ℕ) : Type 0 where
  pub within : node < length edges
  pub cycle : IsOnCycle edges node
  pub first : (other : ℕ) → other < node → IsOnCycle edges other → ⊥

-- each node stands behind those to which its edges lead, some nodes standing before all
abbrev pub StandBehind : List (List ℕ) → List ℕ → List ℕ → Type 0
StandBehind edges before [] = Unit {0}
StandBehind edges before (node ∷ nodes) =
    ((next : ℕ) → Contains (successors edges node) next → next < length edges → Contains before next)
    × StandBehind edges (node ∷ before) nodes

-- all nodes, each once, behind those to which their edges lead
pub record IsOrder (edges : List (List ℕ)) (nodes : List ℕ) : Type 0 where
  pub all : IsPermutation (range_with_len 0 (length edges)) nodes
  pub behind : StandBehind edges [] nodes

abbrev pub IsAnswer : List (List ℕ) → Order → Type 0
IsAnswer edges (Of nodes) = IsOrder edges nodes.items
IsAnswer edges (Cycle node) = IsFirstOnCycle edges node
