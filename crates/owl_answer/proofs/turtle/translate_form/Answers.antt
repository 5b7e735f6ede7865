use Rattle.std.proofs.Common.{Err, ap, sym, subst}
use Rattle.owl_answer.specs.GraphTexts.{HaveRoles}
use Rattle.std.proofs.lemmas.Result.{IfOk-weaker}
use Rattle.owl_documents.specs.Documents.{said_of}
use Rattle.owl_messages.specs.declared.answer.Answer.{Answer}
use Rattle.owl_answer.proofs.Turtles.{few_told, many_told}
use Rattle.owl_answer.proofs.turtle.translate_form.Goals as goal
use Rattle.owl_messages.specs.Answers.{outcome_of}

pub write_graph-requires-clause-roles : goal.write_graph-requires-clause-roles
write_graph-requires-clause-roles c = subst HaveRoles (sym c.in-Ok.ensures.graph) c.requires

pub returns-in-Ok : goal.returns-in-Ok
returns-in-Ok c =
    IfOk-weaker c.write_graph.result _ _ (λ (a : Answer) h. few_told c.args.layout (said_of c.args.form.now) c.args.absorbed c.in-Ok.graph (outcome_of a) c.in-Ok.ensures.graph c.len.ensures.graph h) c.write_graph.ensures

pub returns-in-Err-TooMany : goal.returns-in-Err-TooMany
returns-in-Err-TooMany c =
    IfOk-weaker c.refuse_output.result _ _ (λ (a : Answer) e. many_told c.args.layout (said_of c.args.form.now) c.args.absorbed (outcome_of a) (c.in-Err-TooMany.ensures.too_many (ap Err c.in-Err-TooMany.field-0-is)) e) c.refuse_output.ensures
