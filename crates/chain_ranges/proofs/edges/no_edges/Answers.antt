use Rattle.std.proofs.Common.{rules}
use Rattle.graph_walks.specs.Edges.{edges_of}
use Rattle.graph_walks.proofs.EdgeLaws.{empty_edges, one_more_empty}
use Rattle.chain_ranges.proofs.edges.no_edges.Goals as goal

pub loop-init : goal.loop-init
loop-init c = record { size = search rules; empty = search rules }

pub loop-preserved : goal.loop-preserved
loop-preserved c = record {
  size = search rules;
  empty = one_more_empty c.loop.edges.items c.push.new.self.items c.new.result c.loop.invariant.empty c.in_ok-push.ensures.items c.new.ensures.items;
}

pub returns-clause-edges : goal.returns-clause-edges
returns-clause-edges c = empty_edges (edges_of c.loop.edges.items) c.loop.invariant.empty
