-- Graphs by their edges. A graph is the list of the successors of each node; its nodes are the numbers below the length of that list. An edge may
-- lead to another number, from which none goes on.
use Rattle.std.specs.Prelude.{◌↔◌, ℕ, List, [], map, Contains, slice_index_or}
use Rattle.std.specs.declared.vec.Vec.{Vec}

abbrev pub edges_of : {Z : Type 0} → List (Vec ℕ Z) → List (List ℕ)
edges_of = map (λ nodes. nodes.items)

-- the nodes to which the edges of a node lead
abbrev pub successors : List (List ℕ) → ℕ → List ℕ
successors edges node = slice_index_or edges node []

-- for each node those to which these pairs lead from it
abbrev pub AreEdges : List (ℕ × ℕ) → List (List ℕ) → Type 0
AreEdges pairs edges = (x y : ℕ) → Contains (successors edges x) y ↔ Contains pairs (x, y)
