use Rattle.std.proofs.Common.{◌<◌, ◌≡◌, ◌∙◌, List, ℕ, length, subst, sym}
use Rattle.directed_graphs.specs.Cycles.{edges_of}
use Rattle.directed_graphs.proofs.CycleLaws.{begins_within, graph_size}
use Rattle.directed_graphs.specs.Ranks.{AreByRank}
use Rattle.directed_graphs.proofs.Ranking.{order_by_ranks}
use Rattle.directed_graphs.proofs.Reaching.{lower_reach}
use Rattle.directed_graphs.proofs.order.order_by_reach.Goals as goal

pub returns : goal.returns
returns c =
    let edges : List (List ℕ) = edges_of c.args.edges.now in
    let counts : List ℕ = c.in_ok-counts.counts.items in
    let nodes : List ℕ = c.in_ok-nodes_by_rank.field-0.items in
    let many : length counts ≡ length edges = c.in_ok-counts.ensures.nodes ∙ sym (graph_size c.args.edges.now) in
    let sorted : AreByRank counts (length edges) nodes =
    subst (λ n. AreByRank counts n nodes) (sym (graph_size c.args.edges.now)) (subst (λ xs. AreByRank xs (length c.args.edges.now) nodes) c.deref.ensures.value c.in_ok-nodes_by_rank.ensures) in
    order_by_ranks edges counts
    (λ from next step within.
    let inside : from < length counts = subst (λ n. from < n) (sym many) (begins_within edges from next step) in
    lower_reach edges c.requires from next _ _ (c.in_ok-counts.ensures.reached from inside) (c.in_ok-counts.ensures.reached next (subst (λ n. next < n) (sym many) within)) step within)
    nodes sorted
