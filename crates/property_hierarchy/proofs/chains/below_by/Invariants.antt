use Rattle.std.proofs.Common.{◌≡◌, length, map, take}
use Rattle.std.specs.List.{flat_map}
use Rattle.owl_arena.specs.Held.{trees_at}
use Rattle.property_hierarchy.specs.Numbers.{below_at, numbered_pairs}
use Rattle.property_hierarchy.proofs.chains.below_by.Given as goal

abbrev pub invariant-axioms : goal.invariant-axioms
invariant-axioms l = record {
  made : l.pairs.items ≡ numbered_pairs l.arena.trees (flat_map below_at (trees_at l.arena.trees (take l.id-index l.axioms)));
  counted : l.counts.items ≡ map (λ t. length (below_at t)) (trees_at l.arena.trees (take l.id-index l.axioms));
}
