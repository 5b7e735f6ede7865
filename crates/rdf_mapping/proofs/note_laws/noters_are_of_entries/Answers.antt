use Rattle.rdf_mapping.specs.NoterLaws.{entries_are, noters_are}
use Rattle.rdf_mapping.proofs.note_laws.noters_are_of_entries.Goals as goal

pub returns-clause-entries : goal.returns-clause-entries
returns-clause-entries c = entries_are

pub returns-clause-noters : goal.returns-clause-noters
returns-clause-noters c = noters_are
