use Rattle.owl_answer.proofs.TypingLaws.{same_kinds_clash, same_kinds_typed, same_kinds_untyped}
use Rattle.owl_answer.proofs.laws.typing_depends_on_what_is_declared.Goals as goal

pub returns-clause-clash : goal.returns-clause-clash
returns-clause-clash c = same_kinds_clash

pub returns-clause-typed : goal.returns-clause-typed
returns-clause-typed c = same_kinds_typed

pub returns-clause-untyped : goal.returns-clause-untyped
returns-clause-untyped c = same_kinds_untyped
