use Rattle.owl_kind.proofs.OrderLaws.{clash_once}
use Rattle.owl_answer.proofs.TypingLaws.{not_all_typed, untyped_once}
use Rattle.owl_answer.proofs.laws.typing_is_refused_once.Goals as goal

pub returns-clause-clash : goal.returns-clause-clash
returns-clause-clash c = clash_once

pub returns-clause-untyped : goal.returns-clause-untyped
returns-clause-untyped c = untyped_once

pub returns-clause-none : goal.returns-clause-none
returns-clause-none c = not_all_typed
