use Rattle.std.proofs.Common.{drop}
use Rattle.man_resolve.specs.Expressions.{knows}
use Rattle.man_resolve.specs.Items.{annotations_of}
use Rattle.man_resolve.proofs.BuildingLaws.{AreLeft}
use Rattle.man_resolve.proofs.ItemLaws.{all_meant}
use Rattle.man_resolve.proofs.document.mean_notes.Given as goal

abbrev pub invariant-loop-block : goal.invariant-loop-block
invariant-loop-block l =
    AreLeft l.fn.steps.items l.steps.items (all_meant (annotations_of (knows l.kinds)) l.blocks) (all_meant (annotations_of (knows l.kinds)) (drop l.block-index l.blocks))
