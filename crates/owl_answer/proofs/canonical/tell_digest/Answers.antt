use Rattle.std.proofs.Common.{◌∙◌, ap}
use Rattle.std.proofs.lemmas.Result.{IfOk-weaker}
use Rattle.owl_documents.specs.Documents.{said_of}
use Rattle.owl_messages.specs.Answers.{outcome_of}
use Rattle.owl_messages.specs.declared.answer.Answer.{Answer}
use Rattle.owl_answer.proofs.BytesOnce.{digest_told}
use Rattle.owl_answer.proofs.canonical.tell_digest.Goals as goal

pub returns : goal.returns
returns c =
    IfOk-weaker c.told.result _ _ (λ (a : Answer) e. digest_told (said_of c.args.doc.now) _ _ (outcome_of a) c.in_ok-text.ensures c.in_ok-push.ensures.ok e) c.told.ensures
