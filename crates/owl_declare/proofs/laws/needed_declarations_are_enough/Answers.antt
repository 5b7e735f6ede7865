use Rattle.owl_declare.proofs.NeedLaws.{all_typed, least_needed, needed_once, none_more}
use Rattle.owl_declare.proofs.laws.needed_declarations_are_enough.Goals as goal

pub returns-clause-typed : goal.returns-clause-typed
returns-clause-typed c = all_typed

pub returns-clause-none : goal.returns-clause-none
returns-clause-none c = none_more

pub returns-clause-least : goal.returns-clause-least
returns-clause-least c = least_needed

pub returns-clause-once : goal.returns-clause-once
returns-clause-once c = needed_once
