use Rattle.rdf_mapping.specs.Frames.{IsAny}
use Rattle.rdf_mapping.specs.EntryLaws.{entries_own, notes_drawn, sets_drawn}
use Rattle.rdf_mapping.proofs.note_laws.notes_are_drawn_by_entries.Goals as goal

pub returns-clause-notes : goal.returns-clause-notes
returns-clause-notes c = notes_drawn

pub returns-clause-sets : goal.returns-clause-sets
returns-clause-sets c = sets_drawn

pub returns-clause-own : goal.returns-clause-own
returns-clause-own c = λ name most differ. entries_own name most differ IsAny
