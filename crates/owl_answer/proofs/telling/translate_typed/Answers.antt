use Rattle.std.proofs.Common.{Option, subst}
use Rattle.std.proofs.lemmas.Result.{IfOk-weaker}
use Rattle.owl_doc.specs.Documents.{ontology_of}
use Rattle.owl_answer.specs.Answers.{IsTyping}
use Rattle.owl_answer.specs.TurtleOutcome.{ill_typed, well_typed}
use Rattle.owl_messages.specs.declared.answer.Answer.{Answer}
use Rattle.owl_answer.proofs.Turtles.{typing_fails}
use Rattle.owl_answer.proofs.telling.translate_typed.Goals as goal
use Rattle.owl_messages.specs.Answers.{outcome_of}

pub returns-in-Some-clause-outcome : goal.returns-in-Some-clause-outcome
returns-in-Some-clause-outcome c =
    ill_typed (subst (λ (o : Option Answer). IsTyping c.args.kinds.now (ontology_of c.args.main.now) o) c.in-Some.is c.in_ok-refusal.ensures)

pub returns-in-Some-clause-back : goal.returns-in-Some-clause-back
returns-in-Some-clause-back c = λ s.
    let refused = subst (λ (o : Option Answer). IsTyping c.args.kinds.now (ontology_of c.args.main.now) o) c.in-Some.is c.in_ok-refusal.ensures in
    absurd (typing_fails c.args.kinds.now (ontology_of c.args.main.now) (outcome_of c.in-Some.refusal) refused s)

pub returns-in-None-clause-outcome : goal.returns-in-None-clause-outcome
returns-in-None-clause-outcome c =
    let typed = subst (λ (o : Option Answer). IsTyping c.args.kinds.now (ontology_of c.args.main.now) o) c.in-None.is c.in_ok-refusal.ensures in
    IfOk-weaker c.translate_to_functional.result _ _ (λ (a : Answer) h. well_typed typed h) c.translate_to_functional.ensures.outcome
