use Rattle.std.proofs.Common.{◌≡◌, ◌<◌, ◌↔◌, ℕ, true, false, length, get_or}
use Rattle.graph_walks.specs.Rings.{ClosesRing, link_at}
use Rattle.graph_walks.proofs.ring_search.rings_by_search.Given as goal

abbrev pub invariant-loop-place : goal.invariant-loop-place
invariant-loop-place l = record {
  size : length l.marks.items ≡ l.place;
  told : (k : ℕ) → k < length l.marks.items → (get_or l.marks.items k false ≡ true) ↔ ClosesRing l.links k (link_at l.links k);
}
