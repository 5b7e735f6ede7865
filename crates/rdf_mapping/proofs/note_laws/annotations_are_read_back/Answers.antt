use Rattle.std.specs.Prelude.{Contains}
use Rattle.rdf_mapping.specs.VariantLaws.{own_variants, same_annotation, variants_back, variants_there}
use Rattle.rdf_mapping.proofs.note_laws.annotations_are_read_back.Goals as goal

pub returns-clause-same : goal.returns-clause-same
returns-clause-same c = same_annotation

pub returns-clause-has : goal.returns-clause-has
returns-clause-has c = λ name g apart es are k t own h. own_variants name g apart es are k t (λ ts. Contains own ts) h

pub returns-clause-there : goal.returns-clause-there
returns-clause-there c = λ name g apart es are k t own h. variants_there name g apart es are k t (λ ts. Contains own ts) h

pub returns-clause-back : goal.returns-clause-back
returns-clause-back c = λ name g apart es are k t own h. variants_back name g apart es are k t (λ ts. Contains own ts) h
