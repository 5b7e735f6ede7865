use Rattle.std.proofs.Common.{◌≡◌, ◌∙◌, Ok, sym}
use Rattle.std.proofs.lemmas.Result.{IfErr-weaker}
use Rattle.owl_characters.proofs.ResultLaws.{passed}
use Rattle.man_resolve.specs.Expressions.{knows}
use Rattle.man_resolve.specs.Items.{resolved}
use Rattle.man_resolve.specs.Limits.{ontology_made}
use Rattle.man_resolve.proofs.DocumentLaws.{clash_found, fault_found, limit_found}
use Rattle.man_resolve.proofs.resolving.resolve.Goals as goal

pub returns-in_err-check_kinds-clause-fault : goal.returns-in_err-check_kinds-clause-fault
returns-in_err-check_kinds-clause-fault c =
    let fault = c.in_err-check_kinds.field-0.0 in
    passed c.from_residual.result fault _ c.from_residual.ensures.1 (clash_found c.args.raw.now c.args.kinds.now fault c.in_err-check_kinds.ensures.fault)

pub returns-in_err-mean_document-clause-fault : goal.returns-in_err-mean_document-clause-fault
returns-in_err-mean_document-clause-fault c =
    let fault = c.in_err-mean_document.field-0.0 in
    passed c.from_residual-in_err-mean_document.result fault _ c.from_residual-in_err-mean_document.ensures.1
    (fault_found c.args.raw.now c.args.kinds.now c.in_ok-check_kinds.ensures.none fault c.in_err-mean_document.ensures.fault)

pub returns-clause-fault : goal.returns-clause-fault
returns-clause-fault c =
    let d = c.args.raw.now in
    let o = ontology_made d.head c.deref.result.now c.deref-2.result.now in
    let says : resolved (knows c.args.kinds.now) d ≡ Ok o =
    c.in_ok-mean_document.ensures.made ∙ (λ i. Ok (ontology_made d.head (sym c.deref.ensures.value i) (sym c.deref-2.ensures.value i))) in
    IfErr-weaker c.make_document.result _ _ (limit_found d c.args.kinds.now c.in_ok-check_kinds.ensures.none o says) c.make_document.ensures.fault
