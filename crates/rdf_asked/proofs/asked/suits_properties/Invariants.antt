use Rattle.std.specs.Prelude.{take}
use Rattle.std.specs.List.{AllByRecursion}
use Rattle.rdf_meaning.specs.Rows.{row_seen}
use Rattle.rdf_asked.specs.Asking.{SuitsProperty}
use Rattle.rdf_asked.proofs.asked.suits_properties.Given as goal

abbrev pub invariant-loop-other : goal.invariant-loop-other
invariant-loop-other l = AllByRecursion (SuitsProperty l.source.graph.now l.source.kinds.now (row_seen l.row)) (take l.other-index l.other-items)
