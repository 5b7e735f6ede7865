use Rattle.owl_kind.proofs.Declarations.{none_declared}
use Rattle.owl_kind.proofs.kinds.Kinds.new.Goals as goal

pub returns : goal.returns
returns c = none_declared c.new.result.entries c.new.ensures.empty
