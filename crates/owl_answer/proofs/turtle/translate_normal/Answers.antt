use Rattle.std.proofs.Common.{Err, ap, sym, subst}
use Rattle.owl_answer.specs.GraphTexts.{HaveRoles}
use Rattle.owl_tree.specs.Ontologies.{Ontology}
use Rattle.rdf_mapping.specs.Graphs.{graph_of}
use Rattle.std.proofs.lemmas.Result.{IfOk-weaker}
use Rattle.owl_documents.specs.Documents.{said_of}
use Rattle.owl_messages.specs.declared.answer.Answer.{Answer}
use Rattle.owl_answer.proofs.Turtles.{heavy_told, light_told}
use Rattle.owl_answer.proofs.turtle.translate_normal.Goals as goal
use Rattle.owl_messages.specs.Answers.{outcome_of}

pub translate_form-requires : goal.translate_form-requires
translate_form-requires c = subst (λ (o : Ontology). HaveRoles (graph_of o)) (sym c.in-Ok.ensures.form) (c.requires c.in-Ok.ensures.light)

pub returns-in-Ok : goal.returns-in-Ok
returns-in-Ok c =
    IfOk-weaker c.translate_form.result _ _ (λ (a : Answer) h. light_told c.args.layout (said_of c.args.doc.now) c.in-Ok.form c.in-Ok.absorbed (outcome_of a) c.in-Ok.ensures.form c.in-Ok.ensures.prefixes c.in-Ok.ensures.absorbed c.in-Ok.ensures.light h) c.translate_form.ensures

pub returns-in-Err-TooHeavy : goal.returns-in-Err-TooHeavy
returns-in-Err-TooHeavy c =
    IfOk-weaker c.refuse_output.result _ _ (λ (a : Answer) e. heavy_told c.args.layout (said_of c.args.doc.now) (outcome_of a) (c.in-Err-TooHeavy.ensures.too_heavy (ap Err c.in-Err-TooHeavy.field-0-is)) e) c.refuse_output.ensures
