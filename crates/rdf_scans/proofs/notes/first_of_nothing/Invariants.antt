use Rattle.std.proofs.Common.{take}
use Rattle.rdf_faults.specs.Firsts.{HoldsForNone}
use Rattle.rdf_scans.proofs.NothingFound.{MarksNothing}
use Rattle.rdf_scans.proofs.notes.first_of_nothing.Given as goal

abbrev pub invariant-triples : goal.invariant-triples
invariant-triples l = HoldsForNone (MarksNothing l.reading) (take l.triple-index l.triple-items)
