use Rattle.owl_tree.proofs.OntologyLaws.{canonical_is_ontology, canonical_ontology_again, canonical_same_ontology, same_ontology_is_equal_form, same_ontology_refl, same_ontology_shape, same_ontology_sym, same_ontology_trans, same_ontology_weight}
use Rattle.owl_tree.proofs.laws.ontologies_are_same_by_equal_forms.Goals as goal

pub returns-clause-forms : goal.returns-clause-forms
returns-clause-forms c = same_ontology_is_equal_form

pub returns-clause-reflexive : goal.returns-clause-reflexive
returns-clause-reflexive c = same_ontology_refl

pub returns-clause-symmetric : goal.returns-clause-symmetric
returns-clause-symmetric c = same_ontology_sym

pub returns-clause-transitive : goal.returns-clause-transitive
returns-clause-transitive c = same_ontology_trans

pub returns-clause-weight : goal.returns-clause-weight
returns-clause-weight c = same_ontology_weight

pub returns-clause-equivalent : goal.returns-clause-equivalent
returns-clause-equivalent c = canonical_same_ontology

pub returns-clause-again : goal.returns-clause-again
returns-clause-again c = canonical_ontology_again

pub returns-clause-shape : goal.returns-clause-shape
returns-clause-shape c = same_ontology_shape

pub returns-clause-canonical_shape : goal.returns-clause-canonical_shape
returns-clause-canonical_shape c = canonical_is_ontology
