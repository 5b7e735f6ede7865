use Rattle.std.proofs.Common.{take}
use Rattle.rdf_scans.specs.Reach.{AddsMarks, IsBySome, IsEndOf}
use Rattle.rdf_scans.proofs.reach.mark_ends.Given as goal

abbrev pub invariant-triples : goal.invariant-triples
invariant-triples l = AddsMarks (IsBySome (IsEndOf l.reading) (take l.triple-index l.triple-items)) l.fn.marks.items l.marks.items
