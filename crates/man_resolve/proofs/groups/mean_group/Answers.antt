use Rattle.man_resolve.specs.Expressions.{knows}
use Rattle.man_resolve.proofs.GroupLaws.{grouped}
use Rattle.man_resolve.proofs.groups.mean_group.Goals as goal

pub returns-clause-added : goal.returns-clause-added
returns-clause-added c =
    grouped (knows c.args.kinds.now) c.args.steps.now.items c.loop-part.steps.items c.add.new.steps.items c.args.datas c.loop-part.count _ c.args.parts.now c.loop-part.part-index c.args.tag c.loop-part-test.false c.loop-part.invariant.grouped c.in_ok-add.ensures
