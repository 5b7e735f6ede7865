use Rattle.rdf_mapping.specs.FormLaws.{apart, made_kept, subjects, twice_kept}
use Rattle.rdf_mapping.specs.Frames.{IsOfNode}
use Rattle.rdf_mapping.proofs.laws.forms_are_kept_apart.Goals as goal

pub returns-clause-subjects : goal.returns-clause-subjects
returns-clause-subjects c = subjects

pub returns-clause-apart : goal.returns-clause-apart
returns-clause-apart c = apart

pub returns-clause-made : goal.returns-clause-made
returns-clause-made c = λ name most differ. made_kept name most differ IsOfNode

pub returns-clause-twice : goal.returns-clause-twice
returns-clause-twice c = λ name most differ. twice_kept name most differ IsOfNode
