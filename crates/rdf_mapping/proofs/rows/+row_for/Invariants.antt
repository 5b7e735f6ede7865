use Rattle.std.proofs.Common.{length}
use Rattle.rdf_mapping.proofs.rows.+row_for.Given as goal

abbrev pub decreases-row_for : goal.decreases-row_for
decreases-row_for l = length l.rows.now
