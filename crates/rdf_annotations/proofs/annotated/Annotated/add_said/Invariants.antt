use Rattle.std.proofs.Common.{length}
use Rattle.rdf_annotations.proofs.Saying.{IsHolding}
use Rattle.rdf_annotations.proofs.annotated.Annotated.add_said.Given as goal

abbrev pub invariant-loop-variant : goal.invariant-loop-variant
invariant-loop-variant g l =
    IsHolding (g.S.TreeStore.stands l.fn.store) (g.S.TreeStore.stands l.store) l.self.reading.graph.now l.self.reading.kinds.now l._triple l.said l.rest l.fn.annotations.items l.annotations.items

abbrev pub decreases-loop-variant : goal.decreases-loop-variant
decreases-loop-variant g l = length l.rest
