use Rattle.std.proofs.Common.{◌≡◌, map, take}
use Rattle.dl_rules.specs.Properties.{composites}
use Rattle.owl_arena.specs.Held.{trees_at}
use Rattle.property_hierarchy.specs.Numbers.{number_of}
use Rattle.property_hierarchy.proofs.composites.composites_by.Given as goal

abbrev pub invariant-axioms : goal.invariant-axioms
invariant-axioms l = l.numbers.items ≡ map (number_of l.arena.trees) (composites (trees_at l.arena.trees (take l.id-index l.axioms)))
