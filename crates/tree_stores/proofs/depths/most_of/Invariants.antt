use Rattle.std.proofs.Common.{◌≡◌, drop, max}
use Rattle.tree_stores.specs.Stores.{most_of}
use Rattle.tree_stores.proofs.depths.most_of.Given as goal

abbrev pub invariant-loop-number : goal.invariant-loop-number
invariant-loop-number l = max l.most (most_of (drop l.number-index l.numbers)) ≡ most_of l.numbers
