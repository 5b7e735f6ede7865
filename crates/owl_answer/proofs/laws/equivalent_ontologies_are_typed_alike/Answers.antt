use Rattle.owl_answer.proofs.TypingLaws.{same_ontology_typed, same_ontology_untyped}
use Rattle.owl_answer.proofs.laws.equivalent_ontologies_are_typed_alike.Goals as goal

pub returns-clause-typed : goal.returns-clause-typed
returns-clause-typed c = same_ontology_typed

pub returns-clause-untyped : goal.returns-clause-untyped
returns-clause-untyped c = same_ontology_untyped
