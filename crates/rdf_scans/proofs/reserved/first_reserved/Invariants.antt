use Rattle.std.proofs.Common.{take}
use Rattle.rdf_faults.specs.Firsts.{HoldsForNone}
use Rattle.rdf_scans.specs.Reserved.{IsReservedIn}
use Rattle.rdf_scans.proofs.reserved.first_reserved.Given as goal

abbrev pub invariant-triples : goal.invariant-triples
invariant-triples l = HoldsForNone (IsReservedIn l.reading) (take l.triple-index l.triple-items)
