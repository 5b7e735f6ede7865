use Rattle.std.proofs.Common.{refl}
use Rattle.node_tests.proofs.nodes.check_kinds.Goals as goal

pub returns : goal.returns
returns c = c.in_default.ensures.none.0 refl
