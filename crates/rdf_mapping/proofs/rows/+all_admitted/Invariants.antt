use Rattle.std.proofs.Common.{length}
use Rattle.rdf_mapping.proofs.rows.+all_admitted.Given as goal

abbrev pub decreases-all_admitted : goal.decreases-all_admitted
decreases-all_admitted l = length l.ids.now
