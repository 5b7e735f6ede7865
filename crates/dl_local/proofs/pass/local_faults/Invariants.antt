use Rattle.std.proofs.Common.{◌≡◌, length}
use Rattle.dl_local.specs.Faults.{AreFaultsBelow, IsKnown}
use Rattle.owl_breaches.specs.Sites.{Ontologies}
use Rattle.dl_local.proofs.pass.local_faults.Given as goal

abbrev pub invariant-places : goal.invariant-places
invariant-places l = record {
  size : length l.found.items ≡ l.place;
  told : (c : Ontologies) → IsKnown c l.arena.trees l.kinds l.misused l.composite → AreFaultsBelow l.place c l.arena.trees l.found.items;
}
