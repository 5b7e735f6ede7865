use Rattle.std.proofs.Common.{take}
use Rattle.rdf_scans.specs.Reach.{AddsMarks, IsBySome, IsObjectOf}
use Rattle.rdf_scans.proofs.reach.mark_objects.Given as goal

abbrev pub invariant-triples : goal.invariant-triples
invariant-triples l = AddsMarks (IsBySome (IsObjectOf l.reading.graph.now l.role) (take l.triple-index l.triples)) l.fn.marks.items l.marks.items
