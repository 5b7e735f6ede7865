use Rattle.std.proofs.Common.{◌≡◌, ◌⊎◌, ℕ, Contains, length, take}
use Rattle.std.specs.Prelude.{◌↔◌}
use Rattle.owl_doc.specs.Marks.{IsMarked}
use Rattle.owl_doc.proofs.counts.mark.Given as goal

abbrev pub invariant-ids : goal.invariant-ids
invariant-ids l =
    (length l.marks ≡ length l.fn.marks) × ((place : ℕ) → IsMarked l.marks place ↔ (IsMarked l.fn.marks place ⊎ Contains (take l.id-index l.ids) place))
