use Rattle.rdf_mapping.proofs.GraphEntryLaws.{made_drawn, statement_drawn}
use Rattle.rdf_mapping.proofs.note_laws.graphs_are_drawn_by_entries.Goals as goal

pub returns-clause-statement : goal.returns-clause-statement
returns-clause-statement c = statement_drawn

pub returns-clause-graph : goal.returns-clause-graph
returns-clause-graph c = made_drawn
