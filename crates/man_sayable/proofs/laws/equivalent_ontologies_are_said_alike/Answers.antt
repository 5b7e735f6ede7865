use Rattle.man_sayable.proofs.SayableLaws.{same_ontology_first, same_ontology_said}
use Rattle.man_sayable.proofs.laws.equivalent_ontologies_are_said_alike.Goals as goal

pub returns-clause-all : goal.returns-clause-all
returns-clause-all c = same_ontology_said

pub returns-clause-first : goal.returns-clause-first
returns-clause-first c = same_ontology_first
