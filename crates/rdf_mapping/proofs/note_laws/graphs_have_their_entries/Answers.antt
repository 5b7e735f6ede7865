use Rattle.rdf_mapping.proofs.WholeLaws.{graph_entries}
use Rattle.rdf_mapping.proofs.note_laws.graphs_have_their_entries.Goals as goal

pub returns : goal.returns
returns c = graph_entries
