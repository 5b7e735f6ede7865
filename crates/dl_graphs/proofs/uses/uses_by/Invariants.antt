use Rattle.std.proofs.Common.{◌≡◌, [], length, map, take}
use Rattle.std.specs.List.{flat_map}
use Rattle.owl_arena.specs.Held.{trees_at}
use Rattle.dl_graphs.specs.Uses.{AddsUses, uses_at}
use Rattle.dl_graphs.proofs.uses.uses_by.Given as goal

abbrev pub invariant-axioms : goal.invariant-axioms
invariant-axioms l = record {
  added : AddsUses l.arena.trees (flat_map uses_at (trees_at l.arena.trees (take l.id-index l.axioms))) [] l.pairs.items;
  counts : l.counts.items ≡ map (λ t. length (uses_at t)) (trees_at l.arena.trees (take l.id-index l.axioms));
}
