use Rattle.std.proofs.Common.{inl, inr, subst, sym}
use Rattle.std.proofs.lemmas.Result.{on_ok_weaker}
use Rattle.owl_documents.specs.Documents.{parsed_of}
use Rattle.owl_documents.specs.declared.document.Document.{Document}
use Rattle.owl_answer.specs.KindsAt.{AddsOf}
use Rattle.owl_answer.proofs.kinds.declare.Goals as goal

pub returns-in-Ontology : goal.returns-in-Ontology
returns-in-Ontology c =
    elim c.in-Ontology.is [
      | inl e ↦ on_ok_weaker c.declared-in-Ontology.result (λ h. subst (λ (d : Document). AddsOf (parsed_of d) c.args.kinds.now c.declared-in-Ontology.new.kinds) (sym e) h) c.declared-in-Ontology.ensures.ok
      | inr e ↦ on_ok_weaker c.declared-in-Ontology.result (λ h. subst (λ (d : Document). AddsOf (parsed_of d) c.args.kinds.now c.declared-in-Ontology.new.kinds) (sym e) h) c.declared-in-Ontology.ensures.ok
    ]

pub returns-in-Frames : goal.returns-in-Frames
returns-in-Frames c =
    on_ok_weaker c.declared.result (λ h. subst (λ (d : Document). AddsOf (parsed_of d) c.args.kinds.now c.declared.new.kinds) (sym c.in-Frames.is) h) c.declared.ensures.ok

pub returns-in-Graph : goal.returns-in-Graph
returns-in-Graph c =
    on_ok_weaker c.declare_document.result (λ h. subst (λ (d : Document). AddsOf (parsed_of d) c.args.kinds.now c.declare_document.new.kinds) (sym c.in-Graph.is) h) c.declare_document.ensures
