use Rattle.std.proofs.Common.{◌≡◌, ◌∙◌, length, map, refl, subst, sym}
use Rattle.std.proofs.lemmas.List.{length-map}
use Rattle.std.proofs.lemmas.Result.{IfOk-weaker}
use Rattle.owl_command.specs.Commands.{request_of}
use Rattle.owl_doc.specs.Documents.{Document}
use Rattle.owl_documents.specs.Documents.{parsed_of, said_of}
use Rattle.owl_answer.specs.Reading.{SaysAlone}
use Rattle.owl_messages.specs.declared.answer.Answer.{Answer}
use Rattle.owl_answer.proofs.Same.{no_want}
use Rattle.owl_answer.proofs.UnderKinds.{are_two, both_told, none_second}
use Rattle.owl_answer.proofs.Wanting.{from_both, one_within, parsed_at, stands_at}
use Rattle.owl_answer.proofs.comparison.compare_second.Goals as goal
use Rattle.owl_messages.specs.Answers.{outcome_of}

pub returns-in-Ok : goal.returns-in-Ok
returns-in-Ok c =
    let asked = c.args.asked.now in
    let docs = asked.docs.items in
    let two = are_two asked c.requires.two in
    let document = c.index.result.now in
    let there = parsed_at docs 1 document (stands_at docs 1 document document (one_within docs two.0) c.index.ensures refl) in
    let own = subst (λ (d : Document). SaysAlone (parsed_of document) (said_of d)) (sym c.doc.ensures) c.in-Ok.ensures.said in
    let many : length (map parsed_of docs) ≡ 2 = length-map docs parsed_of ∙ two.0 in
    IfOk-weaker c.compare.result _ _ (λ (a : Answer) w. both_told (request_of asked.command.now) c.requires.two.of_two (map parsed_of docs) (said_of c.args.first.now) c.requires.first (parsed_of document) there many (said_of c.doc.result.now) own (outcome_of a) w) c.compare.ensures

pub returns-in-Err : goal.returns-in-Err
returns-in-Err c =
    let asked = c.args.asked.now in
    let docs = asked.docs.items in
    let two = are_two asked c.requires.two in
    let document = c.index.result.now in
    let there = parsed_at docs 1 document (stands_at docs 1 document document (one_within docs two.0) c.index.ensures refl) in
    from_both c.refuse_unsaid.result _ _ _ (λ (a : Answer) e n. none_second (request_of asked.command.now) c.requires.two.of_two (map parsed_of docs) (said_of c.args.first.now) c.requires.first (parsed_of document) there c.in-Err.fault (c.in-Err.ensures.fault (no_want c.in-Err.fault n)) c.name.result.now c.name.ensures (outcome_of a) e) c.refuse_unsaid.ensures.outcome c.refuse_unsaid.ensures.proper
