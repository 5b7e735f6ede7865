use Rattle.rdf_normal.proofs.NormalFormLaws.{annotations_have_leaf, axioms_have_leaf}
use Rattle.rdf_normal.proofs.laws.leaves_stay.Goals as goal

pub returns-clause-axioms : goal.returns-clause-axioms
returns-clause-axioms c = axioms_have_leaf

pub returns-clause-annotations : goal.returns-clause-annotations
returns-clause-annotations c = annotations_have_leaf
