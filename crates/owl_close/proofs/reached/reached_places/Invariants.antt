use Rattle.std.proofs.Common.{◌-◌, length}
use Rattle.owl_close.specs.Imports.{heads_of}
use Rattle.owl_close.proofs.ReachingLaws.{AreFound}
use Rattle.owl_close.proofs.reached.reached_places.Given as goal

abbrev pub invariant-places : goal.invariant-places
invariant-places l = AreFound (heads_of l.heads) l.places.items l.next

abbrev pub decreases-places : goal.decreases-places
decreases-places l = length l.heads - l.next
