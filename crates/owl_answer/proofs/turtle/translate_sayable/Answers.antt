use Rattle.std.proofs.Common.{refl, sym, subst}
use Rattle.owl_answer.specs.GraphTexts.{HaveRoles}
use Rattle.owl_tree.specs.Ontologies.{Ontology}
use Rattle.rdf_mapping.specs.Graphs.{graph_of}
use Rattle.std.proofs.lemmas.Result.{IfOk-weaker}
use Rattle.owl_documents.specs.Documents.{said_of}
use Rattle.owl_messages.specs.declared.answer.Answer.{Answer}
use Rattle.owl_answer.proofs.Turtles.{light_told}
use Rattle.owl_answer.proofs.turtle.translate_sayable.Goals as goal
use Rattle.owl_messages.specs.Answers.{outcome_of}

pub translate_form-requires : goal.translate_form-requires
translate_form-requires c =
    let is = c.is_normal.ensures in
    let yes = c.if-is_normal.true in
    subst (λ (o : Ontology). HaveRoles (graph_of o)) (is.form yes) (c.requires (is.light yes))

pub returns-then-is_normal : goal.returns-then-is_normal
returns-then-is_normal c =
    let doc = c.args.doc.now in
    let is = c.is_normal.ensures in
    let yes = c.if-is_normal.true in
    IfOk-weaker c.translate_form.result _ _ (λ (a : Answer) h. light_told c.args.layout (said_of doc) doc 0 (outcome_of a) (sym (is.form yes)) refl (sym (is.absorbed yes)) (is.light yes) h) c.translate_form.ensures
