use Rattle.std.proofs.Common.{◌≤◌, drop}
use Rattle.man_resolve.specs.declared.place.Place.TheVariants as place
use Rattle.man_resolve.specs.Expressions.{knows}
use Rattle.man_resolve.proofs.GroupLaws.{AreGrouped}
use Rattle.man_resolve.proofs.PartLaws.{each}
use Rattle.man_resolve.proofs.groups.mean_group.Given as goal

abbrev pub invariant-loop-part : goal.invariant-loop-part
invariant-loop-part l = record {
  few : l.count ≤ l.part-index;
  grouped : AreGrouped l.fn.steps.items l.steps.items l.datas l.count (each (knows l.kinds) place.Property place.Property place.Property l.parts)
      (each (knows l.kinds) place.Property place.Property place.Property (drop l.part-index l.parts));
}
