use Rattle.std.proofs.Common.{◌≡◌, length, take}
use Rattle.graph_walks.specs.Edges.{AreEdges, edges_of}
use Rattle.graph_walks.specs.Walks.{backwards}
use Rattle.chain_ranges.proofs.edges.edges_back.Given as goal

abbrev pub invariant-pairs : goal.invariant-pairs
invariant-pairs l = record {
  size : length l.edges.items ≡ l.nodes;
  edges : AreEdges (take l.pair-index (backwards l.pairs)) (edges_of l.edges.items);
}
