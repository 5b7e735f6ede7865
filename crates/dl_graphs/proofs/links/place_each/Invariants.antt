use Rattle.std.proofs.Common.{take}
use Rattle.owl_arena.specs.Held.{trees_at}
use Rattle.dl_graphs.specs.Links.{IsListing}
use Rattle.dl_graphs.proofs.links.place_each.Given as goal

abbrev pub invariant-axioms : goal.invariant-axioms
invariant-axioms l = IsListing l.arena.trees (trees_at l.arena.trees (take l.id-index l.axioms)) l.seen.keys l.places.items
