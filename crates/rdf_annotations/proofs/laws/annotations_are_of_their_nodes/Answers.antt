use Rattle.rdf_annotations.proofs.AnnotationLaws.{annotations_of_header, annotations_of_node}
use Rattle.rdf_annotations.proofs.laws.annotations_are_of_their_nodes.Goals as goal

pub returns-clause-nodes : goal.returns-clause-nodes
returns-clause-nodes c = annotations_of_node

pub returns-clause-header : goal.returns-clause-header
returns-clause-header c = annotations_of_header
