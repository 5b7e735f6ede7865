use Rattle.rdf_scans.proofs.Gathering.{HasGathered}
use Rattle.rdf_scans.proofs.header.iris_at.Given as goal

abbrev pub invariant-triples : goal.invariant-triples
invariant-triples l = HasGathered l.word l.triples l.iris.items l.triple-index
