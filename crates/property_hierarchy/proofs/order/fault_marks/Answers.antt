use Rattle.std.proofs.Common.{length, ap, sym, ◌∙◌}
use Rattle.std.proofs.lemmas.Bool.{eqb-true}
use Rattle.std.proofs.lemmas.List.{length-map}
use Rattle.std.specs.List.{flat_map}
use Rattle.std.proofs.lemmas.Result.{IfOk-weaker}
use Rattle.dl_rules.specs.Properties.{leads}
use Rattle.owl_arena.specs.Held.{trees_at}
use Rattle.property_hierarchy.specs.Listed.{node_pairs}
use Rattle.property_hierarchy.specs.Numbers.{below_at}
use Rattle.dl_graphs.proofs.UnmarkedLaws.{none_marked}
use Rattle.property_hierarchy.proofs.Reaching.{faults_for, within_for}
use Rattle.property_hierarchy.proofs.order.fault_marks.Goals as goal

pub faults-requires-clause-leads : goal.faults-requires-clause-leads
faults-requires-clause-leads c =
    within_for c.args.arena.now.trees c.distinct.result (leads (trees_at c.args.arena.now.trees c.args.axioms.now)) c.deref-2.result.now c.distinct.ensures.trees
    (c.deref-2.ensures.value ∙ (c.in_ok-leads.ensures ∙ ap node_pairs (c.deref.ensures.value ∙ c.in_ok-steps.ensures)))

pub faults-requires-clause-below : goal.faults-requires-clause-below
faults-requires-clause-below c =
    within_for c.args.arena.now.trees c.distinct.result (flat_map below_at (trees_at c.args.arena.now.trees c.args.axioms.now)) c.deref-3.result.now c.distinct.ensures.trees
    (c.deref-3.ensures.value ∙ (c.in_ok-below.ensures ∙ ap node_pairs c.requires.below))

pub returns : goal.returns
returns c =
    IfOk-weaker c.faults.result _ _
    (λ marks h. faults_for c.deref-2.result.now _ c.deref-3.result.now _ marks.items
    (c.deref-2.ensures.value ∙ (c.in_ok-leads.ensures ∙ ap node_pairs (c.deref.ensures.value ∙ c.in_ok-steps.ensures)))
    (c.deref-3.ensures.value ∙ c.in_ok-below.ensures) h) c.faults.ensures

pub returns-then-is_empty : goal.returns-then-is_empty
returns-then-is_empty c =
    let none = eqb-true (length c.args.below.now) 0 (sym c.if-is_empty.ensures) in
    none_marked _ _ _ (length-map c.args.below.now _ ∙ none) c.new.ensures.items
