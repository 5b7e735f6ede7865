use Rattle.rdf_sayable.proofs.SayableLaws.{equivalent_said, same_ontology_first, same_ontology_said}
use Rattle.rdf_sayable.proofs.laws.equivalent_parts_are_said_alike.Goals as goal

pub returns-clause-axioms : goal.returns-clause-axioms
returns-clause-axioms c = equivalent_said

pub returns-clause-ontologies : goal.returns-clause-ontologies
returns-clause-ontologies c = same_ontology_said

pub returns-clause-first : goal.returns-clause-first
returns-clause-first c = same_ontology_first
