use Rattle.rdf_sayable.proofs.SayableLaws.{said_by_leaves, said_of_leaves}
use Rattle.rdf_sayable.proofs.laws.saying_depends_on_leaves.Goals as goal

pub returns-clause-ontology : goal.returns-clause-ontology
returns-clause-ontology c = said_by_leaves

pub returns-clause-part : goal.returns-clause-part
returns-clause-part c = said_of_leaves
