use Rattle.std.proofs.Common.{◌≡◌, ◌∙◌, Err, ap, length, map, subst, sym}
use Rattle.std.proofs.lemmas.List.{length-map}
use Rattle.std.proofs.lemmas.Result.{IfOk-weaker}
use Rattle.owl_declare.specs.Needed.{SharesKinds, entity_of}
use Rattle.owl_declare.specs.declared.fault.DeclareFault.{DeclareFault}
use Rattle.owl_doc.specs.Documents.{ontology_of}
use Rattle.owl_messages.specs.declared.answer.Answer.{Answer}
use Rattle.owl_answer.proofs.ToldDeclarations.{clash_told, heavy_told, whole_told}
use Rattle.owl_answer.proofs.declaring.tell_declaration.Goals as goal
use Rattle.owl_messages.specs.Answers.{outcome_of}
use Rattle.owl_messages.specs.Refusals.{two_kinds}

pub returns-in-Ok : goal.returns-in-Ok
returns-in-Ok c =
    let items = c.in_ok-needs.needs.items in
    let needs = map entity_of items in
    let count : c.count-added.result ≡ length needs = c.count-added.ensures ∙ ap length c.deref.ensures.value ∙ sym (length-map items entity_of) in
    IfOk-weaker c.tell_whole.result _ _
    (λ (a : Answer) h documents parsed. whole_told c.args.target c.args.closure.kinds c.args.main.now c.notes.ensures.document.canonical documents parsed needs c.declare.new.kinds c.in-Ok.whole c.count-added.result (outcome_of a)
    c.in_ok-needs.ensures count c.in-Ok.ensures.declared c.in-Ok.ensures.prefixes c.in-Ok.ensures.kinds h)
    c.tell_whole.ensures

pub returns-in-Err-TwoKinds : goal.returns-in-Err-TwoKinds
returns-in-Err-TwoKinds c =
    let o = ontology_of c.args.main.now in
    let shares = subst (λ (f : DeclareFault). SharesKinds c.args.closure.kinds o f) c.in-Err-TwoKinds.field-0-is c.in-Err-TwoKinds.ensures.two_kinds in
    IfOk-weaker c.refuse_kinds.result _ _
    (λ (a : Answer) e documents parsed. clash_told c.args.target c.args.closure.kinds c.args.main.now c.notes.ensures.document.canonical documents parsed c.in-Err-TwoKinds.iri (outcome_of a) shares (e ∙ ap two_kinds c.in-Err-TwoKinds.iri-is))
    c.refuse_kinds.ensures

pub returns-in-Err-TooHeavy : goal.returns-in-Err-TooHeavy
returns-in-Err-TooHeavy c =
    IfOk-weaker c.refuse_output.result _ _
    (λ (a : Answer) e documents parsed. heavy_told c.args.target c.args.closure.kinds c.args.main.now c.notes.ensures.document.canonical documents parsed (outcome_of a) (c.in-Err-TooHeavy.ensures.heavy (ap Err c.in-Err-TooHeavy.field-0-is)) e)
    c.refuse_output.ensures
