use Rattle.std.proofs.Common.{◌≡◌, ◌∙◌, ◌↔◌, ◌∷◌, ℕ, List, [], length, subst, sym}
use Rattle.std.specs.Prelude.{Contains}
use Rattle.graph_walks.specs.Edges.{edges_of}
use Rattle.graph_walks.specs.Faults.{IsFault}
use Rattle.graph_walks.specs.Searches.{HoldsReached}
use Rattle.graph_walks.proofs.EdgeLaws.{graph_size}
use Rattle.graph_walks.proofs.FaultLaws.{fault_by_searches}
use Rattle.graph_walks.proofs.orders.leads_back.Goals as goal

pub returns : goal.returns
returns c =
    λ leads below numbers ways step.
    let x = c.args.pair.0 in
    let y = c.args.pair.1 in
    let lead_edges = c.args.lead_edges.now in
    let below_edges = c.args.below_edges.now in
    let nodes = length (edges_of below_edges) in
    let first = c.in_ok-above.above.nodes.items in
    let second = c.in_ok-led.led.nodes.items in
    let third = c.in_ok-under.under.nodes.items in
    let below_size : length below_edges ≡ nodes = sym (graph_size below_edges) in
    let lead_size : length lead_edges ≡ nodes = sym (graph_size lead_edges) ∙ ways.same in
    let above : HoldsReached nodes below (y ∷ []) first =
    subst (λ n. HoldsReached n below (y ∷ []) first) below_size (c.in_ok-above.ensures.found below ways.under) in
    let led : HoldsReached nodes leads first second =
    subst (λ n. HoldsReached n leads first second) lead_size (subst (λ (starts : List ℕ). HoldsReached (length lead_edges) leads starts second) c.nodes.ensures (c.in_ok-led.ensures.found leads ways.led)) in
    let under : HoldsReached nodes below second third =
    subst (λ n. HoldsReached n below second third) below_size (subst (λ (starts : List ℕ). HoldsReached (length below_edges) below starts third) c.nodes-2.ensures (c.in_ok-under.ensures.found below ways.under)) in
    let tells : Contains third x ↔ IsFault leads below x y = fault_by_searches nodes leads below x y first second third ways.leads_within ways.below_within step above led under in (
      λ yes. tells.0 (c.has.ensures.0 yes),
      λ fault. c.has.ensures.1 (tells.1 fault),
    )
