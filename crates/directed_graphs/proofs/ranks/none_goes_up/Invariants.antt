use Rattle.std.proofs.Common.{ℕ, ◌<◌}
use Rattle.directed_graphs.specs.Cycles.{edges_of}
use Rattle.directed_graphs.specs.Ranks.{NeverGoesUp}
use Rattle.directed_graphs.proofs.ranks.none_goes_up.Given as goal

abbrev pub invariant-loop-node : goal.invariant-loop-node
invariant-loop-node l = (other : ℕ) → other < l.node → NeverGoesUp (edges_of l.edges) l.ranks other
