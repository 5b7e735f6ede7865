use Rattle.std.proofs.lemmas.Result.{IfOk-weaker}
use Rattle.owl_documents.specs.Documents.{said_of}
use Rattle.owl_messages.specs.declared.answer.Answer.{Answer}
use Rattle.owl_answer.proofs.ToldActions.{translated_told}
use Rattle.owl_answer.proofs.telling.tell_translation.Goals as goal
use Rattle.owl_messages.specs.Answers.{outcome_of}

pub returns : goal.returns
returns c =
    IfOk-weaker c.told_as_translated.result _ _ (λ (a : Answer) e documents parsed graph. translated_told c.args.target documents parsed c.args.kinds.now (said_of c.args.main.now) (outcome_of c.in_ok-answer.answer) (outcome_of a) e (c.in_ok-answer.ensures parsed graph)) c.told_as_translated.ensures
