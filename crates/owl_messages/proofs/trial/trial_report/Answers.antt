use Rattle.std.proofs.Common.{ap, ◌∙◌}
use Rattle.std.specs.Str.{encode_utf8_all}
use Rattle.std.proofs.lemmas.Result.{IfOk-weaker}
use Rattle.std.proofs.lemmas.Str.{encodes-chars}
use Rattle.owl_characters.specs.declared.text.Text.{Text}
use Rattle.owl_messages.proofs.trial.trial_report.Goals as goal

pub returns : goal.returns
returns c =
    IfOk-weaker c.of.result _ _ (λ (t : Text) e. ap encode_utf8_all e ∙ encodes-chars c.as_str.result.now c.as_str.utf8 ∙ c.as_str.ensures.value ∙ c.in_ok-lines.ensures) c.of.ensures
