use Rattle.ttl_read.specs.Reading.{HasRead}
use Rattle.owl_documents.specs.Documents.{of_turtle}
use Rattle.owl_documents.specs.declared.document.Syntax.TheVariants.{Turtle}
use Rattle.owl_documents.proofs.Refusing.{header_defect, reader_defect}
use Rattle.owl_documents.proofs.readers.Ttl_readReaderDocumentReader.document.Goals as goal

pub returns-in_err-doc-clause-refuses : goal.returns-in_err-doc-clause-refuses
returns-in_err-doc-clause-refuses c =
    reader_defect c.from_residual.result c.in_err-doc.field-0.0 c.from_residual.ensures.1 Turtle (λ base. HasRead base c.args.self)
    (λ proper base bytes fed name t. of_turtle c.in_err-doc.field-0.0 t (c.in_err-doc.ensures.refuses proper base bytes fed))

pub returns-in_err-with_head-clause-refuses : goal.returns-in_err-with_head-clause-refuses
returns-in_err-with_head-clause-refuses c =
    header_defect c.from_residual-in_err-with_head.result c.in_err-with_head.field-0.0 c.from_residual-in_err-with_head.ensures.1 (λ base. HasRead base c.args.self)
    c.in_ok-doc.doc.prefixes c.in_ok-doc.doc.graph c.in_ok-doc.ensures.reads c.in_err-with_head.ensures.fault

pub returns-clause-reads : goal.returns-clause-reads
returns-clause-reads c = λ base bytes fed name t.
    (t, c.in_ok-with_head.ensures.head base bytes (c.in_ok-doc.ensures.reads base bytes fed) (c.in_ok-doc.ensures.plain base bytes fed))
