use Rattle.std.proofs.Common.{◌≡◌, drop}
use Rattle.owl_arena.specs.Differences.{first_difference}
use Rattle.owl_arena.proofs.order.first_difference.Given as goal

abbrev pub invariant-loop-place : goal.invariant-loop-place
invariant-loop-place l = first_difference (drop l.place l.kids) (drop l.place l.others) ≡ first_difference l.kids l.others
