use Rattle.std.proofs.lemmas.Result.{IfOk-weaker}
use Rattle.owl_documents.specs.Documents.{said_of}
use Rattle.owl_messages.specs.declared.answer.Answer.{Answer}
use Rattle.owl_answer.proofs.Sayings.{in_turtle}
use Rattle.owl_answer.proofs.telling.translate_in_turtle.Goals as goal
use Rattle.owl_messages.specs.Answers.{outcome_of}

pub returns : goal.returns
returns c =
    let is = c.notes.ensures.document in
    IfOk-weaker c.translate_to_turtle.result _ _ (λ (a : Answer) h. in_turtle c.args.layout c.args.kinds.now (said_of c.args.main.now) (outcome_of a) is.ontology is.canonical h) c.translate_to_turtle.ensures
