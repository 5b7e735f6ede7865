use Rattle.rdf_mapping.proofs.HeaderLaws.{notes_are, one_header}
use Rattle.rdf_mapping.proofs.graph_laws.headers_are_read_back.Goals as goal

pub returns-clause-header : goal.returns-clause-header
returns-clause-header c = one_header

pub returns-clause-notes : goal.returns-clause-notes
returns-clause-notes c = notes_are
