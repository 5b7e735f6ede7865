use Rattle.std.proofs.Common.{map, refl}
use Rattle.owl_command.specs.Commands.{request_of}
use Rattle.owl_documents.specs.Documents.{parsed_of}
use Rattle.owl_messages.specs.declared.answer.Answer.{Answer}
use Rattle.owl_answer.proofs.Same.{no_want}
use Rattle.owl_answer.proofs.UnderKinds.{are_two, none_first}
use Rattle.owl_answer.proofs.Wanting.{first_within, from_both, parsed_at, stands_at}
use Rattle.owl_answer.proofs.comparison.compare_both.Goals as goal
use Rattle.owl_messages.specs.Answers.{outcome_of}

pub returns-in-Err : goal.returns-in-Err
returns-in-Err c =
    let asked = c.args.asked.now in
    let docs = asked.docs.items in
    let document = c.index.result.now in
    let there = parsed_at docs 0 document (stands_at docs 0 document document (first_within docs (are_two asked c.requires).0) c.index.ensures refl) in
    from_both c.refuse_unsaid.result _ _ _ (λ (a : Answer) e n. none_first (request_of asked.command.now) c.requires.of_two (map parsed_of docs) (parsed_of document) there c.in-Err.fault (c.in-Err.ensures.fault (no_want c.in-Err.fault n)) c.name.result.now c.name.ensures (outcome_of a) e) c.refuse_unsaid.ensures.outcome c.refuse_unsaid.ensures.proper
