use Rattle.std.proofs.Common.{List, length, map, refl, subst, sym}
use Rattle.std.proofs.lemmas.Result.{IfOk-weaker}
use Rattle.owl_command.specs.Commands.{names_of, request_of}
use Rattle.owl_documents.specs.Documents.{parsed_of}
use Rattle.owl_documents.specs.declared.document.Document.{Document}
use Rattle.owl_answer.specs.KindsAt.{IsClosure}
use Rattle.owl_answer.specs.Reading.{IsFirstFault, IsReadAs}
use Rattle.owl_messages.specs.declared.answer.Answer.{Answer}
use Rattle.owl_answer.proofs.Readings.{as_many, some_read, within_names}
use Rattle.owl_answer.proofs.Same.{no_want}
use Rattle.owl_answer.proofs.UnderKinds.{action_told, action_unsaid, some_of_main}
use Rattle.owl_answer.proofs.Wanting.{from_both, parsed_at, stands_at}
use Rattle.owl_answer.proofs.conclusion.answer_action.Goals as goal
use Rattle.owl_messages.specs.Answers.{outcome_of}

pub tell_closure-requires-clause-some : goal.tell_closure-requires-clause-some
tell_closure-requires-clause-some c =
    let closed = subst (λ (docs : List Document). IsClosure (map parsed_of docs) c.in_ok-closure.closure) c.deref.ensures.value c.in_ok-closure.ensures in
    some_read (map parsed_of c.args.asked.docs.items) c.in_ok-closure.closure closed c.in-Ok.said.items c.in-Ok.ensures.said

pub tell_closure-requires-clause-each : goal.tell_closure-requires-clause-each
tell_closure-requires-clause-each c =
    let closed = subst (λ (docs : List Document). IsClosure (map parsed_of docs) c.in_ok-closure.closure) c.deref.ensures.value c.in_ok-closure.ensures in
    as_many (map parsed_of c.args.asked.docs.items) c.in_ok-closure.closure closed c.in-Ok.said.items c.in-Ok.ensures.said

pub returns-in-Ok : goal.returns-in-Ok
returns-in-Ok c =
    let asked = c.args.asked in
    let docs = asked.docs.items in
    let documents = map parsed_of docs in
    let closure = c.in_ok-closure.closure in
    let closed = subst (λ (docs : List Document). IsClosure (map parsed_of docs) c.in_ok-closure.closure) c.deref.ensures.value c.in_ok-closure.ensures in
    let document = c.index.result.now in
    let there = parsed_at docs 0 document (stands_at docs 0 document document (some_of_main asked c.args.action c.requires) c.index.ensures refl) in
    let read : IsReadAs documents closure c.in-Ok.said.items c.asks_types-asks.result = record { closed = closed; say = c.in-Ok.ensures.said; main = parsed_of document; there = there; asks = sym c.asks_types-asks.ensures } in
    IfOk-weaker c.tell_closure.result _ _ (λ (a : Answer) h. action_told (request_of asked.command.now) c.args.action c.requires.options c.requires.names c.requires.asks documents closure closed c.in-Ok.said.items c.in-Ok.ensures.said (outcome_of a) (h documents read)) c.tell_closure.ensures

pub name-requires : goal.name-requires
name-requires c =
    let asked = c.args.asked in
    let found : IsFirstFault (map parsed_of asked.docs.items) c.in_ok-closure.closure.kinds c.in_ok-closure.closure.places.items c.in-Err.unsaid = c.in-Err.ensures.fault in
    within_names asked.docs.items (length (names_of (request_of asked.command.now))) c.in-Err.unsaid.document found.fault.0 found.fault.1 c.requires.asked_for.each

pub returns-in-Err : goal.returns-in-Err
returns-in-Err c =
    let asked = c.args.asked in
    let closed = subst (λ (docs : List Document). IsClosure (map parsed_of docs) c.in_ok-closure.closure) c.deref.ensures.value c.in_ok-closure.ensures in
    from_both c.refuse_unsaid.result _ _ _ (λ (a : Answer) e n. action_unsaid (request_of asked.command.now) c.args.action c.requires.options c.requires.names c.requires.asks (map parsed_of asked.docs.items) c.in_ok-closure.closure closed c.in-Err.unsaid c.in-Err.ensures.fault (no_want c.in-Err.unsaid.fault n) c.name.result.now c.name.ensures (outcome_of a) e) c.refuse_unsaid.ensures.outcome c.refuse_unsaid.ensures.proper
