use Rattle.man_sayable.proofs.SayableLaws.{not_all_said, unsayable_once}
use Rattle.man_sayable.proofs.laws.objections_are_first_once.Goals as goal

pub returns-clause-once : goal.returns-clause-once
returns-clause-once c = unsayable_once

pub returns-clause-none : goal.returns-clause-none
returns-clause-none c = not_all_said
