use Rattle.fss_read.specs.Reading.{HasRead}
use Rattle.owl_documents.specs.Documents.{of_functional}
use Rattle.owl_documents.specs.declared.document.Syntax.TheVariants.{Functional}
use Rattle.owl_documents.proofs.Refusing.{reader_defect}
use Rattle.owl_documents.proofs.readers.Fss_readReaderDocumentReader.document.Goals as goal

pub returns-in_err-finish-clause-refuses : goal.returns-in_err-finish-clause-refuses
returns-in_err-finish-clause-refuses c =
    reader_defect c.from_residual.result c.in_err-finish.field-0.0 c.from_residual.ensures.1 Functional (λ _. HasRead c.args.self)
    (λ proper _ bytes fed name t. of_functional c.in_err-finish.field-0.0 t (c.in_err-finish.ensures.refuses proper bytes fed))
