use Rattle.rdf_mapping.proofs.BesideLaws.{all_declarable_beside}
use Rattle.rdf_mapping.proofs.NoteTreeLaws.{readable_notes}
use Rattle.rdf_mapping.proofs.note_laws.annotation_properties_make_no_node.Goals as goal

pub returns-clause-beside : goal.returns-clause-beside
returns-clause-beside c = all_declarable_beside

pub returns-clause-drawn : goal.returns-clause-drawn
returns-clause-drawn c = readable_notes
