use Rattle.std.proofs.Common.{ℕ, ◌<◌}
use Rattle.directed_graphs.specs.Cycles.{edges_of}
use Rattle.directed_graphs.specs.Ranks.{GoesDown}
use Rattle.directed_graphs.proofs.ranks.all_go_down.Given as goal

abbrev pub invariant-loop-node : goal.invariant-loop-node
invariant-loop-node l = (other : ℕ) → other < l.node → GoesDown (edges_of l.edges) l.ranks other
