use Rattle.std.proofs.Common.{refl}
use Rattle.std.proofs.lemmas.Result.{IfOk-weaker}
use Rattle.owl_documents.specs.Documents.{said_of}
use Rattle.owl_doc.specs.Parts.{part_at}
use Rattle.sayable_parts.specs.Reasons.{why_seen}
use Rattle.owl_messages.specs.declared.answer.Answer.{Answer}
use Rattle.owl_doc.specs.Documents.{ontology_of}
use Rattle.owl_answer.proofs.Sayings.{have_roles}
use Rattle.owl_answer.proofs.Turtles.{ready_told, unsaid_told}
use Rattle.owl_answer.proofs.turtle.translate_typed.Goals as goal
use Rattle.owl_messages.specs.Answers.{outcome_of}

pub translate_sayable-requires : goal.translate_sayable-requires
translate_sayable-requires c = λ light.
    let document = c.notes.ensures.document in
    have_roles c.requires.0 (ontology_of c.args.doc.now) document.canonical c.requires.1 document.ontology (c.in_default.ensures.none.0 refl) light

pub returns-in-Some : goal.returns-in-Some
returns-in-Some c =
    let doc = c.args.doc.now in
    let form = c.notes.ensures.document.canonical in
    let cant = c.in-Some.cant in
    IfOk-weaker c.refuse_unsayable.result _ _ (λ (a : Answer) e kinds typed. unsaid_told c.args.layout kinds (said_of doc) form (outcome_of a) typed (part_at doc cant.item) (why_seen cant.why) c.in-Some.ensures.some e) c.refuse_unsayable.ensures

pub returns : goal.returns
returns c =
    let form = c.notes.ensures.document.canonical in
    IfOk-weaker c.translate_sayable.result _ _ (λ (a : Answer) h kinds typed. ready_told c.args.layout kinds (said_of c.args.doc.now) form (outcome_of a) typed (c.in_default.ensures.none.0 refl) h) c.translate_sayable.ensures
