use Rattle.owl_answer.proofs.TurtleOnce.{translation_alike, translation_once}
use Rattle.owl_answer.proofs.laws.turtle_translations_are_one.Goals as goal

pub returns-clause-once : goal.returns-clause-once
returns-clause-once c = translation_once

pub returns-clause-same : goal.returns-clause-same
returns-clause-same c = translation_alike
