use Rattle.std.proofs.Common.{length}
use Rattle.std.specs.List.{AllByRecursion}
use Rattle.rdf_reverse.specs.Heights.{AllRise, Rises, height_in}
use Rattle.rdf_reverse.proofs.heights.all_rise.Given as goal

abbrev pub invariant-loop-triple : goal.invariant-loop-triple
invariant-loop-triple l =
    AllByRecursion (Rises l.reading.graph.now (height_in l.heights.entries)) l.rest → AllRise l.reading.graph.now (height_in l.heights.entries)

abbrev pub decreases-loop-triple : goal.decreases-loop-triple
decreases-loop-triple l = length l.rest
