use Rattle.std.proofs.Common.{take}
use Rattle.std.specs.List.{AllByRecursion}
use Rattle.owl_arena.specs.Held.{trees_at}
use Rattle.rdf_normal.specs.Staying.{IsBare}
use Rattle.rdf_normal.proofs.staying.are_bare.Given as goal

abbrev pub invariant-ids : goal.invariant-ids
invariant-ids l = AllByRecursion IsBare (trees_at l.arena.trees (take l.id-index l.ids))
