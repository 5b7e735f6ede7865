use Rattle.std.proofs.Common.{take}
use Rattle.owl_pool.specs.Pooling.{AreNumbers, Grows}
use Rattle.owl_pool.proofs.pouring.pour.Given as goal

abbrev pub invariant-places : goal.invariant-places
invariant-places l = record {
  grown : Grows l.fn.pool.trees l.pool.trees;
  numbers : AreNumbers l.pool.trees l.numbers.items (take l.place l.arena.trees);
}
