use Rattle.std.proofs.Common.{Err, sym, ap, ◌∙◌}
use Rattle.std.proofs.lemmas.Result.{IfOk-weaker}
use Rattle.owl_messages.specs.declared.answer.Answer.{Answer}
use Rattle.owl_messages.specs.Answers.{outcome_of}
use Rattle.owl_messages.proofs.Telling.{answered, held_told, too_long_told}
use Rattle.owl_messages.proofs.verdicts.verdict.Goals as goal

pub verdict_text-requires-clause-held : goal.verdict_text-requires-clause-held
verdict_text-requires-clause-held c = held_told c.args.closure.now.documents c.requires.found.0 c.args.found.now c.requires.found.1

pub returns-in-Ok : goal.returns-in-Ok
returns-in-Ok c =
    IfOk-weaker c.refuse.result _ _
    (λ (a : Answer) e breaches told. answered c.args.profile c.args.closure.now.documents c.args.places.now breaches c.args.found.now c.in-Ok.text (outcome_of a) told (sym c.is_empty.ensures ∙ c.if-is_empty.false) e c.in-Ok.ensures.text c.in-Ok.ensures.within)
    c.refuse.ensures

pub returns-in-Err-TooLong : goal.returns-in-Err-TooLong
returns-in-Err-TooLong c =
    IfOk-weaker c.too_long_output.result _ _
    (λ (a : Answer) e breaches told. too_long_told c.args.profile c.args.closure.now.documents c.args.places.now breaches c.args.found.now (outcome_of a) told (sym c.is_empty.ensures ∙ c.if-is_empty.false) e (c.verdict_text.ensures.too_long (c.in-Err-TooLong.is ∙ ap Err c.in-Err-TooLong.field-0-is)))
    c.too_long_output.ensures
