use Rattle.std.proofs.Common.{refl}
use Rattle.rdf_reverse.proofs.scans.check_kinds.Goals as goal

pub returns-clause-clear : goal.returns-clause-clear
returns-clause-clear c = c.in_default.ensures.none.0 refl
