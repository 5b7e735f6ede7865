use Rattle.owl_characters.proofs.ResultLaws.{passed}
use Rattle.man_resolve.specs.Expressions.{knows}
use Rattle.man_resolve.specs.Items.{annotations_of}
use Rattle.man_resolve.proofs.ItemLaws.{all_meant, element_added, element_failed, elements_added}
use Rattle.man_resolve.proofs.document.mean_notes.Goals as goal

pub loop-block-preserved : goal.loop-block-preserved
loop-block-preserved c =
    let means = annotations_of (knows c.args.kinds.now) in
    element_added means c.args.steps.now.items c.loop-block.steps.items c.mean_block.new.steps.items (all_meant means c.args.blocks.now) c.args.blocks.now c.loop-block.block-index c.block-item.result c.loop-block-test.true c.block-item.is c.loop-block.invariant c.in_ok-mean_block.ensures.added

pub returns-in_err-mean_block-clause-fault : goal.returns-in_err-mean_block-clause-fault
returns-in_err-mean_block-clause-fault c =
    let means = annotations_of (knows c.args.kinds.now) in
    let fault = c.in_err-mean_block.field-0.0 in
    passed c.from_residual.result fault _ c.from_residual.ensures.1
    (element_failed means c.args.steps.now.items c.loop-block.steps.items (all_meant means c.args.blocks.now) c.args.blocks.now c.loop-block.block-index c.block-item.result c.loop-block-test.true c.block-item.is c.loop-block.invariant fault c.in_err-mean_block.ensures.fault)

pub returns-clause-added : goal.returns-clause-added
returns-clause-added c =
    let means = annotations_of (knows c.args.kinds.now) in
    elements_added means c.args.steps.now.items c.loop-block.steps.items (all_meant means c.args.blocks.now) c.args.blocks.now c.loop-block.block-index c.loop-block-test.false c.loop-block.invariant
