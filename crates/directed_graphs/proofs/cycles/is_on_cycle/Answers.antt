use Rattle.std.proofs.Common.{◌≡◌, ◌<◌, Bool, true, false, List, get_or, subst, sym, ◌∙◌, rules}
use Rattle.directed_graphs.specs.Cycles.{edges_of}
use Rattle.directed_graphs.proofs.CycleLaws.{graph_size, leads_within}
use Rattle.directed_graphs.proofs.Reaching.{marked_within}
use Rattle.directed_graphs.proofs.cycles.is_on_cycle.Goals as goal

pub returns : goal.returns
returns c =
    let edges = edges_of c.args.edges.now in
    let node = c.args.node in
    let marks : List Bool = c.in_ok-marks.marks.items in
    let each = c.in_ok-marks.ensures in
    let answer : c.has_mark.result ≡ get_or marks node false = search rules in (
      λ h.
          let marked : get_or marks node false ≡ true = sym answer ∙ h in
          (each.told node (subst (λ n. node < n) each.size (marked_within marks node marked))).0 marked,
      λ cycle. answer ∙ (each.told node (subst (λ n. node < n) (graph_size c.args.edges.now) (leads_within edges node node cycle))).1 cycle,
    )
