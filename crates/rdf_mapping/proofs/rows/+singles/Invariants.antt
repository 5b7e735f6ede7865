use Rattle.std.proofs.Common.{length}
use Rattle.rdf_mapping.proofs.rows.+singles.Given as goal

abbrev pub decreases-singles : goal.decreases-singles
decreases-singles l = length l.parts.now
