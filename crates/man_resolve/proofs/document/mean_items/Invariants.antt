use Rattle.std.proofs.Common.{drop}
use Rattle.man_resolve.specs.Expressions.{knows}
use Rattle.man_resolve.specs.Items.{axioms_of}
use Rattle.man_resolve.proofs.BuildingLaws.{AreLeft}
use Rattle.man_resolve.proofs.ItemLaws.{all_meant}
use Rattle.man_resolve.proofs.document.mean_items.Given as goal

abbrev pub invariant-loop-item : goal.invariant-loop-item
invariant-loop-item l =
    AreLeft l.fn.steps.items l.steps.items (all_meant (axioms_of (knows l.kinds)) l.items) (all_meant (axioms_of (knows l.kinds)) (drop l.item-index l.items))
