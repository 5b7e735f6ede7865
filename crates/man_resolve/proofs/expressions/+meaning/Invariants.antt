use Rattle.std.proofs.Common.{drop}
use Rattle.man_resolve.specs.Expressions.{knows}
use Rattle.man_resolve.proofs.BuildingLaws.{AreLeft}
use Rattle.man_resolve.proofs.PartLaws.{each}
use Rattle.man_resolve.proofs.expressions.+meaning.Given as goal

abbrev pub invariant-mean_each-loop-part : goal.invariant-mean_each-loop-part
invariant-mean_each-loop-part l =
    AreLeft l.fn.steps.items l.steps.items (each (knows l.kinds) l.places.first l.places.second l.places.others l.rest)
    (each (knows l.kinds) l.place l.next l.places.others (drop l.part-index l.rest))
