use Rattle.std.proofs.Common.{length}
use Rattle.std.specs.List.{AllByRecursion}
use Rattle.rdf_nodes.specs.Operands.{IsHeldAt}
use Rattle.rdf_nodes.proofs.Steps.{AreOperandsBefore}
use Rattle.rdf_nodes.proofs.source.Source.operands.Given as goal

abbrev pub invariant-loop-part : goal.invariant-loop-part
invariant-loop-part l =
    AreOperandsBefore l.self.graph.now l.self.kinds.now l.self.roles.now l.node l.parts l.operands.items l.rest
    × (AllByRecursion (IsHeldAt l.self.graph.now l.self.kinds.now l.node) l.parts → AllByRecursion (IsHeldAt l.self.graph.now l.self.kinds.now l.node) l.rest)

abbrev pub decreases-loop-part : goal.decreases-loop-part
decreases-loop-part l = length l.rest
