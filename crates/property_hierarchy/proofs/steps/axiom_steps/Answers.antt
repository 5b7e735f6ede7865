use Rattle.std.proofs.Common.{ap, ◌∙◌}
use Rattle.std.proofs.lemmas.Result.{IfOk-weaker}
use Rattle.dl_rules.specs.Properties.{steps_over, with_inverses}
use Rattle.owl_arena.specs.Held.{tree_at}
use Rattle.owl_tree.specs.declared.tag.Tag.{Tag}
use Rattle.owl_tree.specs.Trees.{tag_of}
use Rattle.property_hierarchy.specs.Numbers.{inverse_number, numbers_in}
use Rattle.property_hierarchy.proofs.Stepping.{axiom_numbered}
use Rattle.property_hierarchy.proofs.steps.axiom_steps.Goals as goal

pub returns : goal.returns
returns c =
    let ts = c.args.arena.now.trees in
    let t = tree_at ts c.args.id in
    let numbers = c.in_ok-operands.ensures ∙ ap (numbers_in ts) c.operands.ensures.operands in
    let stated =
    c.in_ok-stated.ensures
    ∙ (ap (λ (u : Tag). steps_over inverse_number u c.deref.result.now) c.tag.ensures ∙ ap (steps_over inverse_number (tag_of t)) c.deref.ensures.value) in
    IfOk-weaker c.with_inverses.result _ _
    (λ steps e. axiom_numbered ts t c.in_ok-operands.operands.items c.in_ok-stated.stated.items steps.items numbers stated (e ∙ ap (with_inverses inverse_number) c.deref-2.ensures.value)) c.with_inverses.ensures
