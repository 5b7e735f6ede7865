use Rattle.graph_walks.specs.Edges.{edges_of}
use Rattle.chain_ranges.proofs.SpreadLaws.{AreFollowed}
use Rattle.chain_ranges.proofs.blocks.follow.Given as goal

abbrev pub invariant-loop-place : goal.invariant-loop-place
invariant-loop-place l = AreFollowed (edges_of l.edges) l.fn.spread.sets.items l.spread l.place
