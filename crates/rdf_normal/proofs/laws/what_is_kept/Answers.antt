use Rattle.rdf_normal.specs.NormalForms.{unsettled_annotations, unsettled_axioms}
use Rattle.rdf_normal.proofs.NormalFormLaws.{nothing_else, stays}
use Rattle.rdf_normal.proofs.laws.what_is_kept.Goals as goal

pub returns-clause-axioms : goal.returns-clause-axioms
returns-clause-axioms c = λ o. stays (unsettled_axioms o)

pub returns-clause-no_other_axioms : goal.returns-clause-no_other_axioms
returns-clause-no_other_axioms c = λ o. nothing_else (unsettled_axioms o)

pub returns-clause-annotations : goal.returns-clause-annotations
returns-clause-annotations c = λ o. stays (unsettled_annotations o)

pub returns-clause-no_other_annotations : goal.returns-clause-no_other_annotations
returns-clause-no_other_annotations c = λ o. nothing_else (unsettled_annotations o)
