use Rattle.std.proofs.Common.{take}
use Rattle.rdf_faults.specs.Firsts.{HoldsForNone}
use Rattle.rdf_scans.proofs.Meeting.{IsAxiomAt}
use Rattle.rdf_scans.proofs.statements.is_typed_axiom.Given as goal

abbrev pub invariant-rows : goal.invariant-rows
invariant-rows l = HoldsForNone (IsAxiomAt l.reading l.triple) (take l.row-index l.row-items)
