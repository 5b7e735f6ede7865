use Rattle.std.proofs.Common.{length}
use Rattle.rdf_statements.proofs.HoldingKids.{AreKidsHeld}
use Rattle.rdf_statements.proofs.hold_forms.hold_kids.Given as goal

abbrev pub invariant-loop-kid : goal.invariant-loop-kid
invariant-loop-kid g l =
    AreKidsHeld l.source.graph.now l.source.kinds.now l.source.roles.now (g.S.TreeStore.stands l.fn.store) l.kids (g.S.TreeStore.stands l.store) l.numbers.items l.rest

abbrev pub decreases-loop-kid : goal.decreases-loop-kid
decreases-loop-kid g l = length l.rest
