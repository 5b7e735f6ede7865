use Rattle.std.proofs.Common.{Err, ap}
use Rattle.std.proofs.lemmas.Result.{IfOk-weaker}
use Rattle.owl_documents.specs.Documents.{said_of}
use Rattle.owl_messages.specs.declared.answer.Answer.{Answer}
use Rattle.owl_answer.proofs.Turtles.{fits_told, long_told}
use Rattle.owl_answer.proofs.turtle.write_graph.Goals as goal
use Rattle.owl_messages.specs.Answers.{outcome_of}

pub returns-in-Ok : goal.returns-in-Ok
returns-in-Ok c =
    let is = c.in-Ok.ensures in
    IfOk-weaker c.translated.result _ _ (λ (a : Answer) e. fits_told c.args.layout c.args.form.now c.arena.result.now c.args.absorbed c.prefixes.result.now c.args.graph.now c.in-Ok.text (outcome_of a) c.arena.ensures c.distinct.ensures.shared c.notes.ensures.document c.prefixes.ensures c.requires.graph is.text is.within is.reads_back e) c.translated.ensures

pub returns-in-Err-TooLong : goal.returns-in-Err-TooLong
returns-in-Err-TooLong c =
    IfOk-weaker c.too_long_output.result _ _ (λ (a : Answer) e. long_told c.args.layout (said_of c.args.form.now) c.args.absorbed c.prefixes.result.now c.args.graph.now (outcome_of a) c.prefixes.ensures c.requires.graph (c.in-Err-TooLong.ensures.too_long (ap Err c.in-Err-TooLong.field-0-is)) e) c.too_long_output.ensures
