use Rattle.std.proofs.Common.{length}
use Rattle.graph_walks.specs.Edges.{edges_of}
use Rattle.chain_ranges.specs.Spreads.{AreSeeded}
use Rattle.chain_ranges.proofs.blocks.seed.Given as goal

abbrev pub invariant-classes : goal.invariant-classes
invariant-classes l = AreSeeded (edges_of l.holders) l.block (length l.fn.spread.sets.items) l.number l.spread
