use Rattle.std.proofs.Common.{◌≡◌, ◌<◌, ℕ, length}
use Rattle.std.specs.Prelude.{slice_index}
use Rattle.graph_walks.specs.Parts.{IsLeast}
use Rattle.graph_walks.proofs.least.least_joined.Given as goal

abbrev pub invariant-loop-node : goal.invariant-loop-node
invariant-loop-node l = record {
  size : length l.numbers.items ≡ l.node;
  least : (x : ℕ) → x < length l.numbers.items → IsLeast l.pairs x (slice_index l.numbers.items x);
}
