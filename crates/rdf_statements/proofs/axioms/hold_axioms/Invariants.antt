use Rattle.std.proofs.Common.{length}
use Rattle.rdf_statements.proofs.Sets.{AreSoFar}
use Rattle.rdf_statements.proofs.axioms.hold_axioms.Given as goal

abbrev pub invariant-loop-set : goal.invariant-loop-set
invariant-loop-set g l = AreSoFar (g.S.TreeStore.stands l.fn.store) (g.S.TreeStore.stands l.store) l.tag l.sets l.kids l.axioms.items l.rest

abbrev pub decreases-loop-set : goal.decreases-loop-set
decreases-loop-set g l = length l.rest
