use Rattle.owl_answer.proofs.Unreached.{change_nothing}
use Rattle.owl_answer.proofs.laws.unreached_documents_change_nothing.Goals as goal

pub returns : goal.returns
returns c = change_nothing
