use Rattle.std.specs.Prelude.{take}
use Rattle.std.specs.List.{AllByRecursion}
use Rattle.rdf_asked.specs.Asking.{SuitsPart}
use Rattle.rdf_asked.proofs.nodes.suit.Given as goal

abbrev pub invariant-loop-triple : goal.invariant-loop-triple
invariant-loop-triple l = AllByRecursion (λ t. AllByRecursion (SuitsPart l.source.graph.now l.source.kinds.now t) l.parts) (take l.triple-index l.triples)
