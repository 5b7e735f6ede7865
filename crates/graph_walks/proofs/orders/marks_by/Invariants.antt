use Rattle.std.proofs.Common.{◌≡◌, ◌<◌, ◌↔◌, ℕ, List, true, false, length, get_or}
use Rattle.graph_walks.specs.Edges.{edges_of}
use Rattle.graph_walks.specs.Faults.{AreWays, IsFault}
use Rattle.graph_walks.proofs.orders.marks_by.Given as goal

abbrev pub invariant-pairs : goal.invariant-pairs
invariant-pairs l = record {
  size : length l.marks.items ≡ l.pair-index;
  told : (leads : List (ℕ × ℕ)) → AreWays leads l.below (edges_of l.lead_edges) (edges_of l.below_edges) l.numbers → (k : ℕ) → k < length l.marks.items →
      (get_or l.marks.items k false ≡ true) ↔ IsFault leads l.below (get_or l.below k (0, 0)).0 (get_or l.below k (0, 0)).1;
}
