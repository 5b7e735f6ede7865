use Rattle.std.proofs.Common.{take}
use Rattle.owl_arena.specs.Held.{trees_at}
use Rattle.range_restrictions.specs.Found.{AreFound}
use Rattle.range_restrictions.proofs.found.found_by.Given as goal

abbrev pub invariant-axioms : goal.invariant-axioms
invariant-axioms l = AreFound l.arena.trees (trees_at l.arena.trees (take l.id-index l.axioms)) l.found
