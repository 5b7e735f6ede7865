use Rattle.std.proofs.Common.{◌≡◌, length, map}
use Rattle.rdf_nodes.specs.Duplicates.{arc_of}
use Rattle.rdf_nodes.proofs.duplicates.are_same.Given as goal

abbrev pub invariant-loop-triple : goal.invariant-loop-triple
invariant-loop-triple l = map arc_of l.rest ≡ map arc_of l.others → map arc_of l.fn.first ≡ map arc_of l.fn.second

abbrev pub decreases-loop-triple : goal.decreases-loop-triple
decreases-loop-triple l = length l.rest
