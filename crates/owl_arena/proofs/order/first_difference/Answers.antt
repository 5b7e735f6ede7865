use Rattle.std.proofs.Common.{arith}
use Rattle.owl_arena.proofs.Differences.{none_found}
use Rattle.owl_arena.proofs.order.first_difference.Goals as goal

pub returns : goal.returns
returns c = none_found c.args.kids.now c.args.others.now c.loop-place.place (omega arith) c.loop-place.invariant
