use Rattle.std.proofs.Common.{ap, sym, ◌∙◌, ◌++◌, List, ℕ}
use Rattle.owl_breaches.proofs.MakingLaws.{made_end, made_step}
use Rattle.breach_lists.proofs.AllAxioms.{axioms_both, axioms_in, axioms_of_one}
use Rattle.breach_lists.proofs.gathering.all_axioms.Goals as goal

pub documents-preserved : goal.documents-preserved
documents-preserved c =
    made_step axioms_in axioms_in axioms_both c.args.pooled.now c.documents.document-index c.document-item.result _ _ c.documents-test.true c.document-item.is c.documents.invariant
    (c.in_ok-extend_from_slice.ensures.items ∙ ap (λ (ids : List ℕ). c.documents.axioms.items ++ ids) (c.axioms.ensures ∙ sym (axioms_of_one c.document-item.result)))

pub returns : goal.returns
returns c = made_end axioms_in axioms_in c.args.pooled.now c.documents.document-index _ c.documents-test.false c.documents.invariant
