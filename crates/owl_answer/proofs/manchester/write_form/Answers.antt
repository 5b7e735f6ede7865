use Rattle.std.proofs.Common.{Err, ap}
use Rattle.std.proofs.lemmas.Result.{IfOk-weaker}
use Rattle.owl_documents.specs.Documents.{said_of}
use Rattle.owl_messages.specs.Answers.{outcome_of}
use Rattle.owl_messages.specs.declared.answer.Answer.{Answer}
use Rattle.owl_answer.specs.ManchesterOutcome.{manchester_translation}
use Rattle.owl_answer.proofs.Manchesters.{fits_told, form_read}
use Rattle.owl_answer.proofs.Wanting.{passed}
use Rattle.owl_answer.proofs.manchester.write_form.Goals as goal

pub returns-in-Ok-clause-outcome : goal.returns-in-Ok-clause-outcome
returns-in-Ok-clause-outcome c =
    IfOk-weaker c.translated.result _ _ (λ (a : Answer) e. fits_told c.args.kinds.now (said_of c.args.form.now) c.in-Ok.text (outcome_of a) e c.in-Ok.ensures.text c.in-Ok.ensures.within) c.translated.ensures

pub returns-in-Ok-clause-back : goal.returns-in-Ok-clause-back
returns-in-Ok-clause-back c =
    IfOk-weaker c.translated.result _ _ (λ (a : Answer) e s. form_read c.args.kinds.now (said_of c.args.form.now) c.in-Ok.text (outcome_of a) e c.notes.ensures.document.canonical c.requires.typed (c.in-Ok.ensures.reads_back c.requires.written)) c.translated.ensures

pub returns-in-Err-TooLong-clause-outcome : goal.returns-in-Err-TooLong-clause-outcome
returns-in-Err-TooLong-clause-outcome c =
    IfOk-weaker c.too_long_output.result _ _ (λ (a : Answer) e. passed (manchester_translation c.args.kinds.now (said_of c.args.form.now)) (outcome_of a) (c.in-Err-TooLong.ensures.too_long (ap Err c.in-Err-TooLong.field-0-is)) e) c.too_long_output.ensures
