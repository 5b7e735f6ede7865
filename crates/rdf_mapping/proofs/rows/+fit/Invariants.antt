use Rattle.std.proofs.Common.{length}
use Rattle.rdf_mapping.proofs.rows.+fit.Given as goal

abbrev pub decreases-fit : goal.decreases-fit
decreases-fit l = length l.parts.now
