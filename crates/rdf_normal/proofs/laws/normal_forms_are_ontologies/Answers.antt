use Rattle.rdf_normal.proofs.ShapedLaws.{normal_is_ontology}
use Rattle.rdf_normal.proofs.laws.normal_forms_are_ontologies.Goals as goal

pub returns : goal.returns
returns c = normal_is_ontology
