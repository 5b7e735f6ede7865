use Rattle.std.proofs.Common.{length, subst, sym}
use Rattle.directed_graphs.specs.Cycles.{edges_of}
use Rattle.directed_graphs.proofs.CycleLaws.{begins_within, graph_size}
use Rattle.directed_graphs.specs.Ranks.{AllGoDown, AreByRank}
use Rattle.directed_graphs.proofs.Ranking.{order_by_ranks}
use Rattle.directed_graphs.proofs.order.order_nodes.Goals as goal

pub returns-then-all_go_down : goal.returns-then-all_go_down
returns-then-all_go_down c =
    let edges = edges_of c.args.edges.now in
    let ranks = c.in_ok-ranks.ranks.items in
    let nodes = c.in_ok-nodes_by_rank.field-0.items in
    let down : AllGoDown edges ranks = subst (AllGoDown edges) c.deref.ensures.value (c.all_go_down.ensures.0 c.if-all_go_down.true) in
    let sorted : AreByRank ranks (length c.args.edges.now) nodes =
    subst (λ xs. AreByRank xs (length c.args.edges.now) nodes) c.deref-then-all_go_down.ensures.value c.in_ok-nodes_by_rank.ensures in
    order_by_ranks edges ranks (λ from next step within. down from (begins_within edges from next step) next step) nodes (subst (λ n. AreByRank ranks n nodes) (sym (graph_size c.args.edges.now)) sorted)
