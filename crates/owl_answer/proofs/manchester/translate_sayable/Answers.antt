use Rattle.std.proofs.Common.{Err, ap}
use Rattle.std.proofs.lemmas.Result.{IfOk-weaker}
use Rattle.owl_doc.specs.Documents.{ontology_of}
use Rattle.owl_documents.specs.Documents.{said_of}
use Rattle.owl_messages.specs.Answers.{outcome_of}
use Rattle.owl_messages.specs.declared.answer.Answer.{Answer}
use Rattle.owl_answer.proofs.Manchesters.{form_typed, form_written, heavy_told, light_told}
use Rattle.owl_answer.proofs.Wanting.{from_both}
use Rattle.owl_answer.proofs.manchester.translate_sayable.Goals as goal

pub write_form-requires-clause-written : goal.write_form-requires-clause-written
write_form-requires-clause-written c =
    let known = c.notes.ensures.document in
    form_written c.args.kinds.now (ontology_of c.args.doc.now) known.ontology known.canonical c.requires (ontology_of c.in-Ok.form) c.in-Ok.ensures.ontology

pub write_form-requires-clause-typed : goal.write_form-requires-clause-typed
write_form-requires-clause-typed c =
    let known = c.notes.ensures.document in
    form_typed c.args.kinds.now (ontology_of c.args.doc.now) known.ontology known.canonical c.requires (ontology_of c.in-Ok.form) c.in-Ok.ensures.ontology

pub returns-in-Ok : goal.returns-in-Ok
returns-in-Ok c =
    from_both c.write_form.result _ _ _ (λ (a : Answer) told back. light_told c.args.kinds.now (said_of c.args.doc.now) c.notes.ensures.document.canonical (outcome_of a) c.requires c.in-Ok.form c.in-Ok.ensures.ontology c.in-Ok.ensures.prefixes c.in-Ok.ensures.light told back) c.write_form.ensures.outcome c.write_form.ensures.back

pub returns-in-Err-TooHeavy : goal.returns-in-Err-TooHeavy
returns-in-Err-TooHeavy c =
    IfOk-weaker c.refuse_output.result _ _ (λ (a : Answer) e. heavy_told c.args.kinds.now (said_of c.args.doc.now) c.notes.ensures.document.canonical (outcome_of a) c.requires (c.in-Err-TooHeavy.ensures.too_heavy (ap Err c.in-Err-TooHeavy.field-0-is)) e) c.refuse_output.ensures
