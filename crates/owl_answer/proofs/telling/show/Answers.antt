use Rattle.std.proofs.Common.{◌<◌, ◌∙◌, ℕ, List, length, subst}
use Rattle.std.proofs.lemmas.Result.{IfOk-weaker}
use Rattle.owl_characters.specs.Limit.{most_bytes}
use Rattle.owl_documents.specs.Documents.{said_of}
use Rattle.owl_messages.specs.declared.answer.Answer.{Answer}
use Rattle.owl_answer.proofs.Wanting.{passed}
use Rattle.owl_answer.proofs.telling.show.Goals as goal
use Rattle.owl_messages.specs.Answers.{outcome_of}
use Rattle.owl_messages.specs.Outcome.{shown}

pub returns-then-as_str-gt-MOST_BYTES : goal.returns-then-as_str-gt-MOST_BYTES
returns-then-as_str-gt-MOST_BYTES c =
    let long : most_bytes < length (shown (said_of c.args.doc.now)).text = subst (λ (x : List ℕ). most_bytes < length x) (c.as_str.ensures.bytes ∙ c.in_ok-text.ensures) c.if-as_str-gt-MOST_BYTES.true in
    IfOk-weaker c.too_long_output.result _ _ (λ (a : Answer) e. passed (shown (said_of c.args.doc.now)) (outcome_of a) long e) c.too_long_output.ensures
