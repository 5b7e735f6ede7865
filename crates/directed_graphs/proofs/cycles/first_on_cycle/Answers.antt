use Rattle.std.proofs.Common.{below_more, arith}
use Rattle.directed_graphs.specs.Cycles.{edges_of}
use Rattle.directed_graphs.proofs.CycleLaws.{graph_size, leads_within}
use Rattle.directed_graphs.proofs.Ranking.{clear_by_ranks}
use Rattle.directed_graphs.proofs.cycles.first_on_cycle.Goals as goal

pub loop-node-preserved-then-goes_down : goal.loop-node-preserved-then-goes_down
loop-node-preserved-then-goes_down c =
    below_more _ _ c.loop-node.invariant
    (clear_by_ranks (edges_of c.args.edges.now) c.args.ranks.now (c.none_goes_up-steady.ensures.0 c.if-steady.true) c.loop-node.node (c.goes_down.ensures.0 c.if-goes_down.true))

pub returns : goal.returns
returns c =
    λ node cycle.
    let within = leads_within (edges_of c.args.edges.now) node node cycle in
    c.loop-node.invariant node (omega (arith, within, graph_size c.args.edges.now)) cycle
