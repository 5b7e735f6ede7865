use Rattle.std.proofs.Common.{take}
use Rattle.chain_ranges.specs.Spreads.{AddsBits}
use Rattle.chain_ranges.proofs.spread.Spread.add_all.Given as goal

abbrev pub invariant-nodes : goal.invariant-nodes
invariant-nodes l = AddsBits (take l.node-index l.nodes) l.bits l.fn.self l.self
