use Rattle.std.proofs.Common.{◌≡◌, ◌++◌, ℕ, List, length}
use Rattle.graph_walks.specs.Edges.{AreEdges, edges_of}
use Rattle.chain_ranges.specs.Marking.{AddsReaching}
use Rattle.chain_ranges.proofs.search.mark_classes.Given as goal

abbrev pub invariant-classes : goal.invariant-classes
invariant-classes l = record {
  done : List ℕ;
  whole : done ++ l.rest ≡ l.classes;
  adds : (pairs : List (ℕ × ℕ)) → AreEdges pairs (edges_of l.below) → AddsReaching pairs (edges_of l.holders) done l.chains l.fn.marks l.marks;
}

abbrev pub decreases-classes : goal.decreases-classes
decreases-classes l = length l.rest
