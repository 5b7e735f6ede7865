use Rattle.std.proofs.Common.{◌≡◌, ◌∙◌, length, ap, subst, sym}
use Rattle.std.proofs.lemmas.Result.{IfOk-weaker}
use Rattle.graph_walks.specs.Edges.{AreEdges, edges_of}
use Rattle.graph_walks.specs.Marks.{MarkNumbers}
use Rattle.graph_walks.specs.Walks.{IsReached}
use Rattle.graph_walks.proofs.reach.reached.Goals as goal

pub returns : goal.returns
returns c =
    let pairs = c.args.pairs.now in
    let size : length c.deref.result.now ≡ c.args.nodes = ap length c.deref.ensures.value ∙ c.in_ok-edges.ensures.size in
    let edges : AreEdges pairs (edges_of c.deref.result.now) =
    subst (λ lists. AreEdges pairs (edges_of lists)) (sym c.deref.ensures.value) c.in_ok-edges.ensures.edges in
    IfOk-weaker c.reached_along.result _ _ (λ marks told. subst (λ n. MarkNumbers n (IsReached pairs c.args.starts.now) marks.items) size (told pairs edges)) c.reached_along.ensures
