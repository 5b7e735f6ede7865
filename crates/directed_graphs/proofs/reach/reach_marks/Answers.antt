use Rattle.std.proofs.Common.{List, ℕ, length, subst, sym}
use Rattle.std.specs.Prelude.{◌↔◌}
use Rattle.std.proofs.lemmas.Result.{IfOk-weaker}
use Rattle.graph_walks.specs.Walks.{IsReached}
use Rattle.graph_walks.proofs.EdgeLaws.{pairs_of, pairs_tell}
use Rattle.graph_walks.proofs.MarkLaws.{same_marks}
use Rattle.directed_graphs.specs.Cycles.{Leads, edges_of}
use Rattle.directed_graphs.proofs.Reaching.{reached_leads}
use Rattle.directed_graphs.proofs.reach.reach_marks.Goals as goal

pub returns : goal.returns
returns c =
    let edges = edges_of c.args.edges.now in
    let node = c.args.node in
    let tells : (to : ℕ) → IsReached (pairs_of edges) c.successors.result.now to ↔ Leads edges node to = λ to. subst (λ (starts : List ℕ). IsReached (pairs_of edges) starts to ↔ Leads edges node to) (sym c.successors.ensures) (reached_leads edges node to) in
    IfOk-weaker c.reached_along.result _ _ (λ marks told. same_marks (length c.args.edges.now) _ _ marks.items tells (told (pairs_of edges) (pairs_tell edges))) c.reached_along.ensures
