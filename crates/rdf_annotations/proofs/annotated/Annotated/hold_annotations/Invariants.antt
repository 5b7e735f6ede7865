use Rattle.rdf_annotations.proofs.Saying.{AnnotatesUpTo}
use Rattle.rdf_annotations.proofs.annotated.Annotated.hold_annotations.Given as goal

abbrev pub invariant-loop-place : goal.invariant-loop-place
invariant-loop-place g l =
    AnnotatesUpTo l.self.reading.graph.now l.self.reading.kinds.now l.self.reading.header.now (g.S.TreeStore.stands l.fn.store) (g.S.TreeStore.stands l.store)
    l.start l.place l.annotations.items
