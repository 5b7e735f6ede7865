use Rattle.std.proofs.Common.{take}
use Rattle.owl_assembly.specs.Filling.{HasAxioms}
use Rattle.owl_assembly.proofs.assembling.add_all.Given as goal

abbrev pub invariant-ids : goal.invariant-ids
invariant-ids l = HasAxioms l.fn.builder (take l.id-index l.ids) l.builder
