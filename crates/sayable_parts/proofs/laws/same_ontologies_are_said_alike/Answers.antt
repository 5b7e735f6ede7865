use Rattle.sayable_parts.proofs.UnsaidLaws.{same_ontology_first, same_ontology_said}
use Rattle.sayable_parts.proofs.laws.same_ontologies_are_said_alike.Goals as goal

pub returns-clause-all : goal.returns-clause-all
returns-clause-all c = same_ontology_said

pub returns-clause-first : goal.returns-clause-first
returns-clause-first c = same_ontology_first
