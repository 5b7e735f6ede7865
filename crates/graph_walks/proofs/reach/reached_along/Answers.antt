use Rattle.std.proofs.Common.{◌≡◌, Bool, List, length, ap, subst, sym}
use Rattle.graph_walks.specs.Marks.{MarkNumbers}
use Rattle.graph_walks.specs.Walks.{IsReached}
use Rattle.graph_walks.proofs.Finding.{found_marks}
use Rattle.graph_walks.proofs.reach.reached_along.Goals as goal

pub returns : goal.returns
returns c =
    λ pairs are.
    let starts = c.args.starts.now in
    let nodes = length c.args.edges.now in
    let found = c.in_ok-found.found in
    let marks = found_marks nodes pairs starts found c.in_ok-found.ensures.told c.in_ok-found.ensures.graph (c.in_ok-found.ensures.found pairs are) in
    let same : c.into_marks.result.items ≡ found.marks.items = ap (λ v. v.items) c.into_marks.ensures in
    subst (λ (told : List Bool). MarkNumbers nodes (IsReached pairs starts) told) (sym same) marks
