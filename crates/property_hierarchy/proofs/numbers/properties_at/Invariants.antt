use Rattle.std.proofs.Common.{◌≡◌, take}
use Rattle.owl_arena.specs.Held.{trees_at}
use Rattle.property_hierarchy.specs.Numbers.{numbers_in}
use Rattle.property_hierarchy.proofs.numbers.properties_at.Given as goal

abbrev pub invariant-ids : goal.invariant-ids
invariant-ids l = l.numbers.items ≡ numbers_in l.arena.trees (trees_at l.arena.trees (take l.id-index l.ids))
