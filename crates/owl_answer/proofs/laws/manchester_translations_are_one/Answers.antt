use Rattle.owl_answer.proofs.ManchesterOnce.{manchester_alike, manchester_once}
use Rattle.owl_answer.proofs.laws.manchester_translations_are_one.Goals as goal

pub returns-clause-once : goal.returns-clause-once
returns-clause-once c = manchester_once

pub returns-clause-same : goal.returns-clause-same
returns-clause-same c = manchester_alike
