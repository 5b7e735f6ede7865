use Rattle.std.proofs.Common.{◌≡◌, length}
use Rattle.directed_graphs.specs.Cycles.{edges_of}
use Rattle.directed_graphs.specs.Reach.{AreReachCounts}
use Rattle.directed_graphs.proofs.reach.reach_counts.Given as goal

abbrev pub invariant-loop-node : goal.invariant-loop-node
invariant-loop-node l = record {
  nodes : length l.counts.items ≡ l.node;
  reached : AreReachCounts (edges_of l.edges) l.counts.items;
}
