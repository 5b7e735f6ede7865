use Rattle.rdf_graph.proofs.Index.{HasNoneUpTo}
use Rattle.rdf_graph.proofs.by_object.next_with.Given as goal

abbrev pub invariant-loop-place : goal.invariant-loop-place
invariant-loop-place l = HasNoneUpTo l.triples l.object l.from l.place
