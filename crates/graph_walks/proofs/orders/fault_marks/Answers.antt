use Rattle.std.proofs.Common.{◌≡◌, ◌∙◌, ◌++◌, length, ap, subst, sym}
use Rattle.graph_walks.specs.Edges.{AreEdges, edges_of}
use Rattle.graph_walks.specs.Parts.{AreParts}
use Rattle.graph_walks.specs.Walks.{AreWithin}
use Rattle.graph_walks.proofs.EdgeLaws.{graph_size}
use Rattle.graph_walks.proofs.orders.fault_marks.Goals as goal

pub returns : goal.returns
returns c =
    let leads = c.args.leads.now in
    let below = c.args.below.now in
    let nodes = c.args.nodes in
    let lead_size : length (edges_of c.deref.result.now) ≡ nodes =
    graph_size c.deref.result.now ∙ ap length c.deref.ensures.value ∙ c.in_ok-lead_edges.ensures.size in
    let below_size : length (edges_of c.deref-2.result.now) ≡ nodes =
    graph_size c.deref-2.result.now ∙ ap length c.deref-2.ensures.value ∙ c.in_ok-below_edges.ensures.size in
    c.in_ok-marks_by.ensures leads (record {
      led = subst (λ lists. AreEdges leads (edges_of lists)) (sym c.deref.ensures.value) c.in_ok-lead_edges.ensures.edges;
      under = subst (λ lists. AreEdges below (edges_of lists)) (sym c.deref-2.ensures.value) c.in_ok-below_edges.ensures.edges;
      same = lead_size ∙ sym below_size;
      leads_within = subst (λ n. AreWithin n leads) (sym below_size) c.requires.leads;
      below_within = subst (λ n. AreWithin n below) (sym below_size) c.requires.below;
      parts = subst (λ n. AreParts n (leads ++ below) c.args.numbers.now) (sym below_size) c.requires.numbers;
    })
