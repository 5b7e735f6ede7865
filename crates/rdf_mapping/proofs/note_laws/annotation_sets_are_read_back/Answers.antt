use Rattle.rdf_mapping.proofs.SetLaws.{notes_said, sets_read, sets_said}
use Rattle.rdf_mapping.proofs.note_laws.annotation_sets_are_read_back.Goals as goal

pub returns-clause-sets : goal.returns-clause-sets
returns-clause-sets c = sets_read

pub returns-clause-notes_said : goal.returns-clause-notes_said
returns-clause-notes_said c = notes_said

pub returns-clause-sets_said : goal.returns-clause-sets_said
returns-clause-sets_said c = sets_said
