use Rattle.std.proofs.Common.{◌≡◌, ◌<◌, ℕ, length}
use Rattle.graph_walks.specs.Rings.{IsTurned, link_at}
use Rattle.graph_walks.proofs.rings.turned_by.Given as goal

abbrev pub invariant-links : goal.invariant-links
invariant-links l = record {
  size : length l.turned.items ≡ l.link-index;
  told : (place : ℕ) → place < length l.turned.items → IsTurned (link_at l.links place) (link_at l.turned.items place);
}
