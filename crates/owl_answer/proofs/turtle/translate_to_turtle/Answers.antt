use Rattle.std.proofs.Common.{Option, subst}
use Rattle.std.proofs.lemmas.Result.{IfOk-weaker}
use Rattle.owl_doc.specs.Documents.{ontology_of}
use Rattle.owl_documents.specs.Documents.{said_of}
use Rattle.owl_answer.specs.Answers.{IsTyping}
use Rattle.owl_messages.specs.declared.answer.Answer.{Answer}
use Rattle.owl_answer.proofs.Turtles.{not_typed_told}
use Rattle.owl_answer.proofs.turtle.translate_to_turtle.Goals as goal
use Rattle.owl_messages.specs.Answers.{outcome_of}

pub translate_typed-requires : goal.translate_typed-requires
translate_typed-requires c =
    let doc = c.args.doc.now in
    (c.args.kinds.now, subst (λ (o : Option Answer). IsTyping c.args.kinds.now (ontology_of doc) o) c.in-None.is c.in_ok-refusal.ensures)

pub returns-in-Some : goal.returns-in-Some
returns-in-Some c =
    let doc = c.args.doc.now in
    let refused = subst (λ (o : Option Answer). IsTyping c.args.kinds.now (ontology_of doc) o) c.in-Some.is c.in_ok-refusal.ensures in
    not_typed_told c.args.layout c.args.kinds.now (said_of doc) c.notes.ensures.document.canonical (outcome_of c.in-Some.refusal) refused

pub returns-in-None : goal.returns-in-None
returns-in-None c =
    let doc = c.args.doc.now in
    let typed = subst (λ (o : Option Answer). IsTyping c.args.kinds.now (ontology_of doc) o) c.in-None.is c.in_ok-refusal.ensures in
    IfOk-weaker c.translate_typed.result _ _ (λ (a : Answer) h. h c.args.kinds.now typed) c.translate_typed.ensures
