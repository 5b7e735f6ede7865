use Rattle.std.proofs.Common.{take}
use Rattle.owl_canon.specs.Bytes.{text_bytes}
use Rattle.owl_canon.specs.Limits.{IsText}
use Rattle.owl_canon.proofs.Putting.{IsPut}
use Rattle.owl_canon.proofs.writing.put_each_import.Given as goal

abbrev pub invariant-iris : goal.invariant-iris
invariant-iris l = IsPut IsText text_bytes l.initial.sink (take l.iri-index l.iris) l.sink
