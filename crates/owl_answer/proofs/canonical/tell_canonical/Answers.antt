use Rattle.std.proofs.Common.{◌≡◌, ◌∙◌, ◌≤◌, Err, length, ap, sym, subst}
use Rattle.std.proofs.lemmas.Result.{IfOk-weaker}
use Rattle.owl_canon.specs.Limits.{ReadsCanonical}
use Rattle.owl_doc.specs.Documents.{ontology_of}
use Rattle.owl_documents.specs.Documents.{said_of}
use Rattle.owl_messages.specs.Answers.{outcome_of}
use Rattle.owl_messages.specs.Outcome.{canonical}
use Rattle.owl_messages.specs.declared.answer.Answer.{Answer}
use Rattle.owl_answer.proofs.BytesOnce.{bytes_back, bytes_told}
use Rattle.owl_answer.proofs.Wanting.{passed}
use Rattle.owl_answer.proofs.canonical.tell_canonical.Goals as goal

pub returns-in-Ok-clause-outcome : goal.returns-in-Ok-clause-outcome
returns-in-Ok-clause-outcome c =
    IfOk-weaker c.told_in_bytes.result _ _ (λ (a : Answer) e. bytes_told (said_of c.args.doc.now) c.in-Ok.bytes.items (outcome_of a) e c.in-Ok.ensures.bytes c.in-Ok.ensures.short) c.told_in_bytes.ensures

pub returns-in-Ok-clause-back : goal.returns-in-Ok-clause-back
returns-in-Ok-clause-back c =
    IfOk-weaker c.told_in_bytes.result _ _ (λ (a : Answer) e s. bytes_back (ontology_of c.args.doc.now) c.in-Ok.bytes.items (outcome_of a) e c.in-Ok.ensures.reads) c.told_in_bytes.ensures

pub returns-in-Err-TooLong-clause-outcome : goal.returns-in-Err-TooLong-clause-outcome
returns-in-Err-TooLong-clause-outcome c =
    IfOk-weaker c.too_long_output.result _ _ (λ (a : Answer) e. passed (canonical (said_of c.args.doc.now)) (outcome_of a) (c.in-Err-TooLong.ensures.too_long (ap Err c.in-Err-TooLong.field-0-is)) e) c.too_long_output.ensures
