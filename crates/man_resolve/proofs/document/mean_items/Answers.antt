use Rattle.owl_characters.proofs.ResultLaws.{passed}
use Rattle.man_resolve.specs.Expressions.{knows}
use Rattle.man_resolve.specs.Items.{axioms_of}
use Rattle.man_resolve.proofs.ItemLaws.{all_meant, element_added, element_failed, elements_added}
use Rattle.man_resolve.proofs.document.mean_items.Goals as goal

pub loop-item-preserved : goal.loop-item-preserved
loop-item-preserved c =
    let means = axioms_of (knows c.args.kinds.now) in
    element_added means c.args.steps.now.items c.loop-item.steps.items c.mean_item.new.steps.items (all_meant means c.args.items.now) c.args.items.now c.loop-item.item-index c.item-item.result c.loop-item-test.true c.item-item.is c.loop-item.invariant c.in_ok-mean_item.ensures.added

pub returns-in_err-mean_item-clause-fault : goal.returns-in_err-mean_item-clause-fault
returns-in_err-mean_item-clause-fault c =
    let means = axioms_of (knows c.args.kinds.now) in
    let fault = c.in_err-mean_item.field-0.0 in
    passed c.from_residual.result fault _ c.from_residual.ensures.1
    (element_failed means c.args.steps.now.items c.loop-item.steps.items (all_meant means c.args.items.now) c.args.items.now c.loop-item.item-index c.item-item.result c.loop-item-test.true c.item-item.is c.loop-item.invariant fault c.in_err-mean_item.ensures.fault)

pub returns-clause-added : goal.returns-clause-added
returns-clause-added c =
    let means = axioms_of (knows c.args.kinds.now) in
    elements_added means c.args.steps.now.items c.loop-item.steps.items (all_meant means c.args.items.now) c.args.items.now c.loop-item.item-index c.loop-item-test.false c.loop-item.invariant
