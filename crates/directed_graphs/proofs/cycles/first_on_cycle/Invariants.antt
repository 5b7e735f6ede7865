use Rattle.std.proofs.Common.{ℕ, ◌<◌}
use Rattle.directed_graphs.specs.Cycles.{IsOnCycle, edges_of}
use Rattle.directed_graphs.proofs.cycles.first_on_cycle.Given as goal

abbrev pub invariant-loop-node : goal.invariant-loop-node
invariant-loop-node l = (other : ℕ) → other < l.node → IsOnCycle (edges_of l.edges) other → ⊥
