use Rattle.std.proofs.Common.{take}
use Rattle.rdf_scans.specs.Statements.{IsMetBy}
use Rattle.rdf_scans.proofs.statements.are_met.Given as goal

abbrev pub invariant-parts : goal.invariant-parts
invariant-parts l = IsMetBy l.reading l.triple (take l.part-index l.parts)
