use Rattle.std.proofs.Common.{◌≡◌, length}
use Rattle.graph_walks.specs.Edges.{edges_of}
use Rattle.graph_walks.proofs.EdgeLaws.{AreEmpty}
use Rattle.chain_ranges.proofs.edges.no_edges.Given as goal

abbrev pub invariant-loop : goal.invariant-loop
invariant-loop l = record {
  size : length l.edges.items ≡ l.counter;
  empty : AreEmpty (edges_of l.edges.items);
}
