use Rattle.rdf_mapping.proofs.GroupFrameLaws.{groups_kept, note_subjects, statement_owned}
use Rattle.rdf_mapping.proofs.laws.groups_are_kept_apart.Goals as goal

pub returns-clause-annotations : goal.returns-clause-annotations
returns-clause-annotations c = note_subjects

pub returns-clause-statement : goal.returns-clause-statement
returns-clause-statement c = statement_owned

pub returns-clause-groups : goal.returns-clause-groups
returns-clause-groups c = groups_kept
