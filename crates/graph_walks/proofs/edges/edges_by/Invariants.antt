use Rattle.std.proofs.Common.{◌≡◌, length, take}
use Rattle.graph_walks.specs.Edges.{edges_of}
use Rattle.graph_walks.specs.Edges.{AreEdges}
use Rattle.graph_walks.proofs.edges.edges_by.Given as goal

abbrev pub invariant-pairs : goal.invariant-pairs
invariant-pairs l = record {
  size : length l.edges.items ≡ l.nodes;
  edges : AreEdges (take l.pair-index l.pairs) (edges_of l.edges.items);
}
