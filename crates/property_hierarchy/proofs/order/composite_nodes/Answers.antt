use Rattle.std.proofs.Common.{length, ap, ◌∙◌}
use Rattle.std.proofs.lemmas.Result.{IfOk-weaker}
use Rattle.dl_rules.specs.Properties.{leads}
use Rattle.owl_arena.specs.Held.{trees_at}
use Rattle.property_hierarchy.specs.Listed.{node_pairs, nodes_of}
use Rattle.property_hierarchy.proofs.Reaching.{reached_for, within_for}
use Rattle.property_hierarchy.proofs.order.composite_nodes.Goals as goal

pub reached-requires : goal.reached-requires
reached-requires c =
    within_for c.args.arena.now.trees c.distinct.result (leads (trees_at c.args.arena.now.trees c.args.axioms.now)) c.deref-3.result.now c.distinct.ensures.trees
    (c.deref-3.ensures.value ∙ (c.in_ok-pairs.ensures ∙ ap node_pairs (c.deref.ensures.value ∙ c.in_ok-steps.ensures)))

pub returns : goal.returns
returns c =
    IfOk-weaker c.reached.result _ _
    (λ marks h. reached_for c.distinct.result (length c.args.arena.now.trees) c.deref-3.result.now _ c.deref-4.result.now _ marks.items c.distinct.ensures.trees
    (c.deref-3.ensures.value ∙ (c.in_ok-pairs.ensures ∙ ap node_pairs (c.deref.ensures.value ∙ c.in_ok-steps.ensures)))
    (c.deref-4.ensures.value ∙ (c.in_ok-starts-2.ensures ∙ ap nodes_of (c.deref-2.ensures.value ∙ c.in_ok-starts.ensures))) h) c.reached.ensures
