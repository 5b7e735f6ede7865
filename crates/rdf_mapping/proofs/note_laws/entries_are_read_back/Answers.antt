use Rattle.rdf_mapping.proofs.MainNoteLaws.{main_notes}
use Rattle.rdf_mapping.specs.NoteLaws.{note_role, notes_entry, reifies_entry}
use Rattle.rdf_mapping.proofs.note_laws.entries_are_read_back.Goals as goal

pub returns-clause-role : goal.returns-clause-role
returns-clause-role c = note_role

pub returns-clause-reifies : goal.returns-clause-reifies
returns-clause-reifies c = reifies_entry

pub returns-clause-notes : goal.returns-clause-notes
returns-clause-notes c = notes_entry

pub returns-clause-main : goal.returns-clause-main
returns-clause-main c = main_notes
