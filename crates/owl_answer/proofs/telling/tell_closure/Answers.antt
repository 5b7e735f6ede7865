use Rattle.std.proofs.Common.{subst, sym}
use Rattle.std.proofs.lemmas.Result.{IfOk-weaker}
use Rattle.owl_command.specs.declared.command.Action.{Action}
use Rattle.owl_command.specs.declared.command.Action.TheVariants.{Translate, Check, Show, Declare, Canon, Digest}
use Rattle.owl_answer.specs.Answers.{IsToldOf}
use Rattle.owl_messages.specs.declared.answer.Answer.{Answer}
use Rattle.owl_answer.proofs.Readings.{main_said, main_there}
use Rattle.owl_answer.proofs.ToldActions.{told_of_main}
use Rattle.owl_answer.proofs.Wanting.{from_both}
use Rattle.owl_answer.proofs.telling.tell_closure.Goals as goal
use Rattle.owl_messages.specs.Answers.{outcome_of}

pub returns-in-Translate : goal.returns-in-Translate
returns-in-Translate c =
    IfOk-weaker c.tell_translation.result _ _ (λ (a : Answer) h documents read.
    let first = main_said documents c.args.closure read.closed c.args.said.items read.say c.index.result.now c.index.ensures in
    subst (λ (action : Action). IsToldOf action documents (outcome_of a)) (sym c.in-Translate.is)
    (told_of_main (Translate c.in-Translate.target) documents c.args.closure c.args.said.items c.args.asks read c.index.result.now first (outcome_of a) (λ parsed graph. h documents parsed graph))) c.tell_translation.ensures

pub returns-in-Check : goal.returns-in-Check
returns-in-Check c =
    IfOk-weaker c.check.result _ _ (λ (a : Answer) h documents read.
    let first = main_there documents c.args.closure read.closed c.args.said.items read.say in
    subst (λ (action : Action). IsToldOf action documents (outcome_of a)) (sym c.in-Check.is)
    (told_of_main (Check c.in-Check.profile) documents c.args.closure c.args.said.items c.args.asks read first.0 first.1 (outcome_of a) (λ parsed graph. record { is = h documents read.closed read.say; back = λ s. tt }))) c.check.ensures

pub returns-in-Show : goal.returns-in-Show
returns-in-Show c =
    IfOk-weaker c.show.result _ _ (λ (a : Answer) w documents read.
    let first = main_said documents c.args.closure read.closed c.args.said.items read.say c.index-in-Show.result.now c.index-in-Show.ensures in
    subst (λ (action : Action). IsToldOf action documents (outcome_of a)) (sym c.in-Show.is)
    (told_of_main Show documents c.args.closure c.args.said.items c.args.asks read c.index-in-Show.result.now first (outcome_of a) (λ parsed graph. record { is = w; back = λ s. tt }))) c.show.ensures

pub returns-in-Declare : goal.returns-in-Declare
returns-in-Declare c =
    IfOk-weaker c.tell_declaration.result _ _ (λ (a : Answer) h documents read.
    let first = main_said documents c.args.closure read.closed c.args.said.items read.say c.index-in-Declare.result.now c.index-in-Declare.ensures in
    subst (λ (action : Action). IsToldOf action documents (outcome_of a)) (sym c.in-Declare.is)
    (told_of_main (Declare c.in-Declare.target) documents c.args.closure c.args.said.items c.args.asks read c.index-in-Declare.result.now first (outcome_of a) (λ parsed graph. h documents parsed))) c.tell_declaration.ensures

pub returns-in-Canon : goal.returns-in-Canon
returns-in-Canon c =
    from_both c.tell_canonical.result _ _ _ (λ (a : Answer) w b documents read.
    let first = main_said documents c.args.closure read.closed c.args.said.items read.say c.index-in-Canon.result.now c.index-in-Canon.ensures in
    subst (λ (action : Action). IsToldOf action documents (outcome_of a)) (sym c.in-Canon.is)
    (told_of_main Canon documents c.args.closure c.args.said.items c.args.asks read c.index-in-Canon.result.now first (outcome_of a) (λ parsed asks. record { is = w; back = b }))) c.tell_canonical.ensures.outcome c.tell_canonical.ensures.back

pub returns-in-Digest : goal.returns-in-Digest
returns-in-Digest c =
    IfOk-weaker c.tell_digest.result _ _ (λ (a : Answer) e documents read.
    let first = main_said documents c.args.closure read.closed c.args.said.items read.say c.index-in-Digest.result.now c.index-in-Digest.ensures in
    subst (λ (action : Action). IsToldOf action documents (outcome_of a)) (sym c.in-Digest.is)
    (told_of_main Digest documents c.args.closure c.args.said.items c.args.asks read c.index-in-Digest.result.now first (outcome_of a) (λ parsed asks. record { is = e; back = λ s. tt }))) c.tell_digest.ensures
