use Rattle.std.specs.Prelude.{take}
use Rattle.std.specs.List.{AllByRecursion}
use Rattle.rdf_asked.specs.Asking.{SuitsPart}
use Rattle.rdf_asked.proofs.asked.suits.Given as goal

abbrev pub invariant-loop-part : goal.invariant-loop-part
invariant-loop-part l = AllByRecursion (SuitsPart l.source.graph.now l.source.kinds.now l.triple) (take l.part-index l.parts)
