use Rattle.sayable_parts.proofs.UnsaidLaws.{not_all_said, unsaid_once}
use Rattle.sayable_parts.proofs.laws.first_is_one.Goals as goal

pub returns-clause-once : goal.returns-clause-once
returns-clause-once c = unsaid_once

pub returns-clause-none : goal.returns-clause-none
returns-clause-none c = not_all_said
