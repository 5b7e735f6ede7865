use Rattle.std.proofs.Common.{arith}
use Rattle.property_hierarchy.proofs.Placing.{holds_kids, kids_before_more}
use Rattle.property_hierarchy.proofs.builtin.open_kids.Goals as goal

pub places-init : goal.places-init
places-init c = λ id h. absurd (omega (arith, h))

pub places-preserved : goal.places-preserved
places-preserved c =
    kids_before_more c.args.arena.now.trees c.places.place c.at.result c.kids.result.now c.places.invariant (omega arith) c.at.ensures c.kids.ensures.kids c.kids.ensures.below

pub returns-clause-kids : goal.returns-clause-kids
returns-clause-kids c = holds_kids c.args.arena.now.trees c.places.place c.places.invariant (omega arith)
