use Rattle.std.proofs.Common.{◌<◌, ◌∙◌, ℕ, List, length, subst}
use Rattle.std.proofs.lemmas.Result.{IfOk-weaker}
use Rattle.owl_characters.specs.Limit.{most_bytes}
use Rattle.owl_messages.specs.Answers.{outcome_of}
use Rattle.owl_messages.specs.Trial.{tried}
use Rattle.owl_messages.specs.declared.answer.Answer.{Answer}
use Rattle.owl_answer.proofs.Wanting.{passed}
use Rattle.owl_answer.proofs.trial.report.Goals as goal

pub returns-then-as_str-gt-MOST_BYTES : goal.returns-then-as_str-gt-MOST_BYTES
returns-then-as_str-gt-MOST_BYTES c =
    let long : most_bytes < length (tried c.args.findings.now).text = subst (λ (x : List ℕ). most_bytes < length x) (c.as_str.ensures.bytes ∙ c.in_ok-text.ensures) c.if-as_str-gt-MOST_BYTES.true in
    IfOk-weaker c.too_long_output.result _ _ (λ (a : Answer) e. passed (tried c.args.findings.now) (outcome_of a) long e) c.too_long_output.ensures
