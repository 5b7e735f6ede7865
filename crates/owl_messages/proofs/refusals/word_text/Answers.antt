use Rattle.std.proofs.Common.{ap, ◌∙◌}
use Rattle.std.specs.Str.{encode_utf8_all}
use Rattle.std.proofs.lemmas.Result.{IfOk-weaker}
use Rattle.std.proofs.lemmas.Str.{encodes-chars}
use Rattle.owl_characters.specs.declared.text.Text.{Text}
use Rattle.owl_messages.proofs.refusals.word_text.Goals as goal

pub returns : goal.returns
returns c =
    IfOk-weaker c.of.result _ _ (λ (t : Text) e. ap encode_utf8_all e ∙ encodes-chars c.args.word.now c.utf8.word) c.of.ensures
