use Rattle.rdf_mapping.proofs.NoteTreeLaws.{entry_read, notes_read}
use Rattle.rdf_mapping.proofs.note_laws.annotation_trees_are_read_back.Goals as goal

pub returns-clause-notes : goal.returns-clause-notes
returns-clause-notes c = notes_read

pub returns-clause-entry : goal.returns-clause-entry
returns-clause-entry c = entry_read
