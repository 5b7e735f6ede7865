use Rattle.man_resolve.proofs.KnowingLaws.{known}
use Rattle.man_resolve.proofs.names.has_kind.Goals as goal

pub returns : goal.returns
returns c = known _ _ _ _ c.has.ensures
