use Rattle.std.proofs.Common.{ℕ, List, ap, subst, ◌∙◌}
use Rattle.dl_rules.specs.Properties.{leads}
use Rattle.owl_arena.specs.Held.{trees_at}
use Rattle.dl_graphs.specs.Groups.{group_marks}
use Rattle.property_hierarchy.specs.Listed.{node_pairs}
use Rattle.property_hierarchy.specs.Numbers.{numbered_pairs}
use Rattle.property_hierarchy.specs.declared.numbers.PropertyNumber.{PropertyNumber}
use Rattle.property_hierarchy.proofs.Reaching.{NodeFaults, broken_marks}
use Rattle.property_hierarchy.proofs.order.broken_chains.Goals as goal

pub returns : goal.returns
returns c =
    let ts = c.args.arena.now.trees in
    let steps = node_pairs (numbered_pairs ts (leads (trees_at ts c.args.axioms.now))) in
    broken_marks ts c.open_kids.ensures.shared c.open_kids.ensures.kids c.args.axioms.now c.requires.axioms c.in_ok-below.below c.in_ok-marks.marks.items c.in_ok-group_marks.field-0.items c.in_ok-below.ensures
    (subst (λ (pairs : List (PropertyNumber × PropertyNumber)). NodeFaults steps (node_pairs pairs) c.in_ok-marks.marks.items) c.deref.ensures.value c.in_ok-marks.ensures)
    (c.in_ok-group_marks.ensures
    ∙ (ap (λ (counts : List ℕ). group_marks counts c.deref-3.result.now) c.deref-2.ensures.value ∙ ap (group_marks c.in_ok-below.below.counts.items) c.deref-3.ensures.value))
