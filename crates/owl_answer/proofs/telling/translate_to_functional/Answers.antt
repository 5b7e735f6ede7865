use Rattle.std.proofs.Common.{◌<◌, ℕ, List, Err, length, ap, sym, subst}
use Rattle.std.proofs.lemmas.Result.{IfOk-weaker}
use Rattle.owl_characters.specs.Limit.{most_bytes}
use Rattle.owl_documents.specs.Documents.{said_of}
use Rattle.owl_messages.specs.declared.answer.Answer.{Answer}
use Rattle.owl_answer.proofs.Wanting.{passed, translation_text}
use Rattle.owl_answer.proofs.telling.translate_to_functional.Goals as goal
use Rattle.owl_messages.specs.Answers.{outcome_of}
use Rattle.owl_messages.specs.Outcome.{translation}

pub returns-in-Err-TooLong-clause-outcome : goal.returns-in-Err-TooLong-clause-outcome
returns-in-Err-TooLong-clause-outcome c =
    let doc = c.args.doc.now in
    let long : most_bytes < length (translation (said_of doc)).text = subst (λ (x : List ℕ). most_bytes < length x) (sym (translation_text doc c.notes.ensures.document.canonical)) (c.in-Err-TooLong.ensures.too_long (ap Err c.in-Err-TooLong.field-0-is)) in
    IfOk-weaker c.too_long_output.result _ _ (λ (a : Answer) e. passed (translation (said_of doc)) (outcome_of a) long e) c.too_long_output.ensures
