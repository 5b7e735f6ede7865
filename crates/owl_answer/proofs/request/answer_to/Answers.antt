use Rattle.std.proofs.Common.{map}
use Rattle.std.proofs.lemmas.Result.{IfOk-weaker}
use Rattle.owl_command.specs.Commands.{request_of}
use Rattle.owl_documents.specs.Documents.{parsed_of}
use Rattle.owl_documents.specs.Shelves.{Shelves}
use Rattle.owl_messages.specs.declared.answer.Answer.{Answer}
use Rattle.owl_answer.proofs.Answering.{answered_read, answered_stop}
use Rattle.owl_answer.proofs.Wanting.{from_both}
use Rattle.owl_answer.proofs.request.answer_to.Goals as goal
use Rattle.owl_messages.specs.Answers.{outcome_of}

pub returns-in-Ok-clause-answered : goal.returns-in-Ok-clause-answered
returns-in-Ok-clause-answered g c =
    let s : Shelves = record { tells = g.S.Shelf.tells c.args.shelf.now; old = g.S.Shelf.left c.args.shelf.now; new = g.S.Shelf.left c.read_documents.new.shelf; faults = g.S.Shelf.faults c.args.shelf.now; later = g.S.Shelf.faults c.read_documents.new.shelf } in
    IfOk-weaker c.conclude.result _ _ (λ (a : Answer) k. answered_read c.documents_are_read_one_way.ensures.read c.documents_are_read_one_way.ensures.refused c.documents_are_read_one_way.ensures.apart (request_of c.args.command.now) s (map parsed_of c.in-Ok.docs.items) (outcome_of a) c.in-Ok.ensures.read c.in-Ok.ensures.ended k) c.conclude.ensures

pub returns-in-Err-clause-answered : goal.returns-in-Err-clause-answered
returns-in-Err-clause-answered g c =
    let s : Shelves = record { tells = g.S.Shelf.tells c.args.shelf.now; old = g.S.Shelf.left c.args.shelf.now; new = g.S.Shelf.left c.read_documents.new.shelf; faults = g.S.Shelf.faults c.args.shelf.now; later = g.S.Shelf.faults c.read_documents.new.shelf } in
    from_both c.answer_trouble.result _ _ _ (λ (a : Answer) e m. answered_stop c.documents_are_read_one_way.ensures.read c.documents_are_read_one_way.ensures.refused c.documents_are_read_one_way.ensures.apart (request_of c.args.command.now) s c.in-Err.stop c.name.result.now (outcome_of a) c.in-Err.ensures.stop c.name.ensures m e) c.answer_trouble.ensures.outcome c.answer_trouble.ensures.memory
