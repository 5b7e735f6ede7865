use Rattle.std.proofs.Common.{take}
use Rattle.owl_arena.specs.Held.{trees_at}
use Rattle.owl_assembly.specs.Filling.{AreAxioms}
use Rattle.owl_canon.proofs.documents.are_axioms.Given as goal

abbrev pub invariant-ids : goal.invariant-ids
invariant-ids l = AreAxioms (trees_at l.arena.trees (take l.id-index l.ids))
