use Rattle.std.specs.List.{AllByRecursion}
use Rattle.std.proofs.Common.{length}
use Rattle.rdf_nodes.specs.Numbers.{HasItsNumber}
use Rattle.rdf_nodes.proofs.Holding.{AreHeldUpTo}
use Rattle.rdf_nodes.proofs.source.Source.hold_operands.Given as goal

abbrev pub invariant-loop-operand : goal.invariant-loop-operand
invariant-loop-operand g l =
    AreHeldUpTo l.self.graph.now l.self.kinds.now l.self.roles.now (g.S.TreeStore.stands l.fn.store) l.operands (g.S.TreeStore.stands l.store) l.kids.items l.rest
    × AllByRecursion (HasItsNumber l.ids) l.rest

abbrev pub decreases-loop-operand : goal.decreases-loop-operand
decreases-loop-operand g l = length l.rest
