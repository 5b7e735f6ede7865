use Rattle.std.proofs.Common.{◌-◌}
use Rattle.blank_labels.proofs.TakenNumbers.{IsBetween}
use Rattle.blank_labels.proofs.far.passing.Given as goal

abbrev pub invariant-loop-low : goal.invariant-loop-low
invariant-loop-low l = IsBetween l.taken l.number l.low l.high

abbrev pub decreases-loop-low : goal.decreases-loop-low
decreases-loop-low l = l.high - l.low
