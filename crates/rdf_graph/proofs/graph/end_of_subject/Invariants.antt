use Rattle.rdf_graph.proofs.Subjects.{AreUpTo}
use Rattle.rdf_graph.proofs.graph.end_of_subject.Given as goal

abbrev pub invariant-loop-end : goal.invariant-loop-end
invariant-loop-end l = AreUpTo l.term l.end l.triples
