use Rattle.man_read.specs.Reading.{HasRead}
use Rattle.owl_documents.specs.Documents.{of_manchester}
use Rattle.owl_documents.specs.declared.document.Syntax.TheVariants.{Manchester}
use Rattle.owl_documents.proofs.Refusing.{reader_defect}
use Rattle.owl_documents.proofs.readers.Man_readReaderDocumentReader.document.Goals as goal

pub returns-in_err-doc-clause-refuses : goal.returns-in_err-doc-clause-refuses
returns-in_err-doc-clause-refuses c =
    reader_defect c.from_residual.result c.in_err-doc.field-0.0 c.from_residual.ensures.1 Manchester (λ _. HasRead c.args.self)
    (λ proper _ bytes fed name t. of_manchester c.in_err-doc.field-0.0 t (c.in_err-doc.ensures.refuses proper bytes fed))

pub returns-clause-reads : goal.returns-clause-reads
returns-clause-reads c = λ _ bytes fed name t. (t, c.with_table.ensures.reads bytes (c.in_ok-doc.ensures.reads bytes fed))
