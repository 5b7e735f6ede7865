use Rattle.std.proofs.Common.{drop}
use Rattle.std.specs.List.{flat_map}
use Rattle.man_resolve.specs.Building.{leaves}
use Rattle.man_resolve.specs.Expressions.{after, knows}
use Rattle.man_resolve.specs.Items.{axiom_of, declaration_of}
use Rattle.man_resolve.proofs.BuildingLaws.{AreLeft}
use Rattle.man_resolve.proofs.ItemLaws.{one_each}
use Rattle.man_resolve.proofs.items.mean_item.Given as goal

abbrev pub invariant-loop-part : goal.invariant-loop-part
invariant-loop-part l =
    AreLeft l.fn.steps.items l.steps.items
    (after (flat_map declaration_of (leaves l.subject)) (one_each (axiom_of (knows l.kinds) l.item.heading (leaves l.subject)) l.part-items))
    (one_each (axiom_of (knows l.kinds) l.item.heading (leaves l.subject)) (drop l.part-index l.part-items))
