use Rattle.rdf_mapping.proofs.NoAxiomLaws.{head_named, header_note, noted_aside}
use Rattle.rdf_mapping.proofs.graph_laws.annotations_are_no_axioms.Goals as goal

pub returns-clause-noted : goal.returns-clause-noted
returns-clause-noted c = noted_aside

pub returns-clause-head : goal.returns-clause-head
returns-clause-head c = head_named

pub returns-clause-note : goal.returns-clause-note
returns-clause-note c = header_note
