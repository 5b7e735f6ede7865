use Rattle.std.proofs.Common.{List, ℕ, ap, ◌∙◌}
use Rattle.std.specs.Str.{encode_utf8_all}
use Rattle.std.proofs.lemmas.Result.{IfOk-weaker}
use Rattle.std.proofs.lemmas.Str.{encodes-chars}
use Rattle.owl_messages.specs.declared.answer.Answer.{Answer}
use Rattle.owl_messages.proofs.answer.said.Goals as goal
use Rattle.owl_messages.specs.Outcome.{Outcome}

pub returns : goal.returns
returns c =
    let same = ap encode_utf8_all c.in_ok-of.ensures ∙ encodes-chars c.args.line.now c.utf8.line in
    IfOk-weaker c.told.result _ _ (λ (a : Answer) e. e ∙ ap of_text same) c.told.ensures
  where
    of_text : List ℕ → Outcome
    of_text text = record { status = c.args.status; text = text; line = c.args.line.now }
