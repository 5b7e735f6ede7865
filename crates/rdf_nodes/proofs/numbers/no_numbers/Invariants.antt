use Rattle.std.proofs.Common.{◌≡◌, length}
use Rattle.rdf_nodes.specs.Numbers.{HaveNone}
use Rattle.rdf_nodes.proofs.numbers.no_numbers.Given as goal

abbrev pub invariant-loop-node : goal.invariant-loop-node
invariant-loop-node g l = HaveNone l.ids.items × (length l.ids.items ≡ l._node)
