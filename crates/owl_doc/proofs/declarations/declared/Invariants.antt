use Rattle.std.proofs.Common.{take}
use Rattle.owl_arena.specs.Held.{trees_at}
use Rattle.owl_doc.specs.Entities.{AddsAll, declarations}
use Rattle.owl_doc.proofs.declarations.declared.Given as goal

abbrev pub invariant-axioms : goal.invariant-axioms
invariant-axioms l =
    AddsAll l.fn.kinds (declarations (trees_at l.doc.arena.trees (take l.id-index l.id-items))) l.kinds
