use Rattle.std.proofs.Common.{take}
use Rattle.std.specs.List.{AllByRecursion}
use Rattle.owl_arena.specs.Held.{trees_at}
use Rattle.rdf_normal.specs.Staying.{IsKept}
use Rattle.rdf_normal.proofs.staying.are_kept.Given as goal

abbrev pub invariant-ids : goal.invariant-ids
invariant-ids l = AllByRecursion (IsKept l.name) (trees_at l.arena.trees (take l.id-index l.ids))
