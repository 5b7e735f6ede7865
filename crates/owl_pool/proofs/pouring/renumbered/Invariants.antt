use Rattle.std.proofs.Common.{◌≡◌, map, take}
use Rattle.owl_pool.specs.Pooling.{number_at}
use Rattle.owl_pool.proofs.pouring.renumbered.Given as goal

abbrev pub invariant-places : goal.invariant-places
invariant-places l = l.found.items ≡ map (number_at l.numbers) (take l.id-index l.places)
