use Rattle.std.proofs.Common.{Err, ap}
use Rattle.owl_documents.proofs.Refusing.{bytes_defect, bytes_not_failed, bytes_proper}
use Rattle.owl_documents.proofs.canonical.document_of.Goals as goal

pub returns-in_err-read-clause-refuses : goal.returns-in_err-read-clause-refuses
returns-in_err-read-clause-refuses c =
    bytes_defect c.from_residual.result c.in_err-read.field-0.0 c.from_residual.ensures.1 c.args.bytes.now (λ is. c.in_err-read.ensures.not_canon (ap Err is))

pub returns-clause-reads : goal.returns-clause-reads
returns-clause-reads c = λ base name t. (t, record { reads = c.in_ok-read.ensures.reads; prefixes = c.in_ok-read.ensures.prefixes })
