use Rattle.std.proofs.Common.{take, map}
use Rattle.owl_doc.specs.Entities.{AddsAll}
use Rattle.owl_declare.specs.Needed.{entity_of}
use Rattle.owl_declare.proofs.declaring.know_all.Given as goal

abbrev pub invariant-needs : goal.invariant-needs
invariant-needs l = AddsAll l.fn.kinds (map entity_of (take l.need-index l.needs)) l.kinds
