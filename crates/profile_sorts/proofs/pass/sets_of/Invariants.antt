use Rattle.std.proofs.Common.{◌≡◌, length}
use Rattle.profile_sorts.specs.Sets.{AreSortsBelow}
use Rattle.profile_sorts.proofs.pass.sets_of.Given as goal

abbrev pub invariant-places : goal.invariant-places
invariant-places l = record {
  size : length l.sets.items ≡ l.place;
  told : AreSortsBelow l.place l.arena.trees l.sets.items;
}
