use Rattle.std.proofs.Common.{take}
use Rattle.owl_assembly.specs.Filling.{HasNotes}
use Rattle.owl_assembly.proofs.assembling.annotate_all.Given as goal

abbrev pub invariant-ids : goal.invariant-ids
invariant-ids l = HasNotes l.fn.builder (take l.id-index l.ids) l.builder
