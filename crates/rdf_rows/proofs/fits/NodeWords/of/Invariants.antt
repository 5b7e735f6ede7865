use Rattle.std.proofs.Common.{◌≡◌, length, take}
use Rattle.rdf_rows.specs.Fits.{CountsWords}
use Rattle.rdf_rows.proofs.Counting.{counted_in}
use Rattle.rdf_rows.proofs.fits.NodeWords.of.Given as goal

abbrev pub invariant-loop-triple : goal.invariant-loop-triple
invariant-loop-triple l = CountsWords (counted_in l.counts) (take l.triple-index l.triples) × (length l.counts ≡ 70)
