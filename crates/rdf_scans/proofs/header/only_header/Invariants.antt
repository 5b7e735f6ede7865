use Rattle.rdf_scans.proofs.OneHeader.{HasFound}
use Rattle.rdf_scans.proofs.header.only_header.Given as goal

abbrev pub invariant-triples : goal.invariant-triples
invariant-triples l = HasFound l.triples l.found l.triple-index
