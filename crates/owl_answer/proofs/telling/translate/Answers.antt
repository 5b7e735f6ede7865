use Rattle.std.proofs.Common.{subst, sym}
use Rattle.std.proofs.lemmas.Result.{IfOk-weaker}
use Rattle.owl_command.specs.declared.command.Target.{Target}
use Rattle.owl_documents.specs.Documents.{said_of}
use Rattle.owl_answer.specs.Answers.{IsTranslated}
use Rattle.owl_messages.specs.declared.answer.Answer.{Answer}
use Rattle.owl_answer.proofs.telling.translate.Goals as goal
use Rattle.owl_messages.specs.Answers.{outcome_of}

pub returns-in-Fss : goal.returns-in-Fss
returns-in-Fss c =
    IfOk-weaker c.translate_in_functional.result _ _ (λ (a : Answer) h parsed graph. subst (λ (target : Target). IsTranslated target parsed c.args.kinds.now (said_of c.args.main.now) (outcome_of a)) (sym c.in-Fss.is) (h parsed graph)) c.translate_in_functional.ensures

pub returns-in-Ttl : goal.returns-in-Ttl
returns-in-Ttl c =
    IfOk-weaker c.translate_in_turtle.result _ _ (λ (a : Answer) h parsed graph. subst (λ (target : Target). IsTranslated target parsed c.args.kinds.now (said_of c.args.main.now) (outcome_of a)) (sym c.in-Ttl.is) (record { is = h.is; back = h.back })) c.translate_in_turtle.ensures

pub returns-in-Omn : goal.returns-in-Omn
returns-in-Omn c =
    IfOk-weaker c.translate_to_manchester.result _ _ (λ (a : Answer) h parsed graph. subst (λ (target : Target). IsTranslated target parsed c.args.kinds.now (said_of c.args.main.now) (outcome_of a)) (sym c.in-Omn.is) (record { is = h.is; back = h.back })) c.translate_to_manchester.ensures
