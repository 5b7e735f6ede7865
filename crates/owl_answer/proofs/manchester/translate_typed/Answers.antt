use Rattle.std.proofs.Common.{refl}
use Rattle.std.proofs.lemmas.Result.{IfOk-weaker}
use Rattle.owl_doc.specs.Parts.{part_at}
use Rattle.owl_documents.specs.Documents.{said_of}
use Rattle.owl_messages.specs.Answers.{outcome_of}
use Rattle.owl_messages.specs.declared.answer.Answer.{Answer}
use Rattle.sayable_parts.specs.Reasons.{why_seen}
use Rattle.owl_answer.proofs.Manchesters.{unsaid_told}
use Rattle.owl_answer.proofs.manchester.translate_typed.Goals as goal

pub returns-in-Some : goal.returns-in-Some
returns-in-Some c =
    let doc = c.args.doc.now in
    let cant = c.in-Some.cant in
    IfOk-weaker c.refuse_unsayable.result _ _ (λ (a : Answer) e. unsaid_told c.args.kinds.now (said_of doc) c.notes.ensures.document.canonical (outcome_of a) c.requires (part_at doc cant.item) (why_seen cant.why) c.in-Some.ensures.some e) c.refuse_unsayable.ensures

pub translate_sayable-requires : goal.translate_sayable-requires
translate_sayable-requires c = record { typed = c.requires; sayable = c.in_default.ensures.none.0 refl }
