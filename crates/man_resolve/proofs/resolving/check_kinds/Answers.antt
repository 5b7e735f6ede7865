use Rattle.std.proofs.Common.{refl}
use Rattle.man_resolve.proofs.resolving.check_kinds.Goals as goal

pub returns-in-None-clause-none : goal.returns-in-None-clause-none
returns-in-None-clause-none c = c.in-None.ensures.none.0 refl
