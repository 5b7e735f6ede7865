use Rattle.rdf_mapping.proofs.StatementFrameLaws.{linked_back_kept, linked_kept, looped_kept}
use Rattle.rdf_mapping.proofs.laws.statements_are_kept.Goals as goal

pub returns-clause-forth : goal.returns-clause-forth
returns-clause-forth c = linked_kept

pub returns-clause-back_again : goal.returns-clause-back_again
returns-clause-back_again c = linked_back_kept

pub returns-clause-itself : goal.returns-clause-itself
returns-clause-itself c = looped_kept
