use Rattle.std.proofs.Common.{take}
use Rattle.rdf_faults.specs.Firsts.{HoldsForNone}
use Rattle.rdf_scans.specs.Statements.{IsUntypedIn}
use Rattle.rdf_scans.proofs.untyped.first_untyped_statement.Given as goal

abbrev pub invariant-triples : goal.invariant-triples
invariant-triples l = HoldsForNone (IsUntypedIn l.reading) (take l.triple-index l.triple-items)
