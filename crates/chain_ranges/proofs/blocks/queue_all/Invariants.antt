use Rattle.std.proofs.Common.{length}
use Rattle.chain_ranges.specs.Spreads.{IsEmptyOf}
use Rattle.chain_ranges.proofs.blocks.queue_all.Given as goal

abbrev pub invariant-nodes : goal.invariant-nodes
invariant-nodes l = IsEmptyOf (length l.fn.spread.sets.items) l.spread
