use Rattle.std.proofs.Common.{◌<◌, ℕ}
use Rattle.graph_walks.specs.Rings.{IsEntry, link_at}
use Rattle.graph_walks.proofs.entries.are_entries.Given as goal

abbrev pub invariant-loop-place : goal.invariant-loop-place
invariant-loop-place l = (other : ℕ) → other < l.place → IsEntry l.numbers l.entries (link_at l.pairs other) other
