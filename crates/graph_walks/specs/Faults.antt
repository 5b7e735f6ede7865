-- Faults of an order: with the pairs that lead, and the pairs of which the first is to stand below the second, a walk up, across and up again that
-- ends where it began.
use Rattle.std.specs.Prelude.{◌≡◌, ◌++◌, ℕ, List, length}
use Rattle.graph_walks.specs.Edges.{AreEdges}
use Rattle.graph_walks.specs.Parts.{AreParts}
use Rattle.graph_walks.specs.Walks.{AreWithin, Walks}

-- walks lead from the second along `below`, on along `leads`, and on along `below` to the first
pub record IsFault {P : Type 0} (leads below : List (P × P)) (x y : P) : Type 0 where
  pub upper : P
  pub lower : P
  pub above : Walks below y upper
  pub led : Walks leads upper lower
  pub under : Walks below lower x

-- the edges of both graphs, and the parts of both together
pub record AreWays (leads below : List (ℕ × ℕ)) (lead_edges below_edges : List (List ℕ)) (numbers : List ℕ) : Type 0 where
  pub led : AreEdges leads lead_edges
  pub under : AreEdges below below_edges
  pub same : length lead_edges ≡ length below_edges
  pub leads_within : AreWithin (length below_edges) leads
  pub below_within : AreWithin (length below_edges) below
  pub parts : AreParts (length below_edges) (leads ++ below) numbers
