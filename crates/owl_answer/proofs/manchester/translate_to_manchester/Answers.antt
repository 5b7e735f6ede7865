use Rattle.std.proofs.Common.{Option, subst}
use Rattle.owl_doc.specs.Documents.{ontology_of}
use Rattle.owl_documents.specs.Documents.{said_of}
use Rattle.owl_messages.specs.Answers.{outcome_of}
use Rattle.owl_messages.specs.declared.answer.Answer.{Answer}
use Rattle.owl_answer.specs.Answers.{IsTyping}
use Rattle.owl_answer.proofs.Manchesters.{not_typed_told}
use Rattle.owl_answer.proofs.manchester.translate_to_manchester.Goals as goal

pub returns-in-Some : goal.returns-in-Some
returns-in-Some c =
    let doc = c.args.doc.now in
    let refused = subst (λ (o : Option Answer). IsTyping c.args.kinds.now (ontology_of doc) o) c.in-Some.is c.in_ok-refusal.ensures in
    not_typed_told c.args.kinds.now (said_of doc) c.notes.ensures.document.canonical (outcome_of c.in-Some.refusal) refused

pub translate_typed-requires : goal.translate_typed-requires
translate_typed-requires c =
    subst (λ (o : Option Answer). IsTyping c.args.kinds.now (ontology_of c.args.doc.now) o) c.in-None.is c.in_ok-refusal.ensures
