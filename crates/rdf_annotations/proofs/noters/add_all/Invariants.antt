use Rattle.rdf_annotations.specs.Noters.{AreNotersUpTo, numbers_at}
use Rattle.rdf_annotations.proofs.noters.add_all.Given as goal

abbrev pub invariant-loop-number : goal.invariant-loop-number
invariant-loop-number l = AreNotersUpTo l.reading.graph.now l.reading.roles.now l.number (numbers_at l.by_place.entries)
