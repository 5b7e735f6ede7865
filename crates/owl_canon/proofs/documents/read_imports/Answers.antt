use Rattle.std.proofs.Common.{◌++◌, ◌+◌, ◌∙◌, List, ℕ, length, subst, sym}
use Rattle.std.specs.Prelude.{flat_map}
use Rattle.owl_canon.specs.Bytes.{text_bytes}
use Rattle.owl_canon.proofs.EachRead.{HasRead, all_read, count_first, one_not_read, one_read}
use Rattle.owl_canon.proofs.Finding.{passed_on}
use Rattle.owl_canon.proofs.WholeDocuments.{IsGoodIri, good_iris}
use Rattle.owl_canon.proofs.documents.read_imports.Goals as goal

pub returns-in_err-iri : goal.returns-in_err-iri
returns-in_err-iri c = λ iris more h few e.
    let n = c.in_ok-count.ensures (length iris) (flat_map text_bytes iris ++ more) few.few (e ∙ count_first text_bytes iris more) in
    passed_on c.from_residual-in_err-iri.result c.in_err-iri.field-0.0 _ c.from_residual-in_err-iri.ensures.1
    (one_not_read IsGoodIri text_bytes c.in_ok-count.count _ _ _ c.iris._iri c.iris.invariant c.in_err-iri.field-0.0 c.iris-test.true (λ iri rest good f. c.in_err-iri.ensures iri rest good.iri_is good.text_is f) iris more (good_iris iris h few.each) (sym n.0) n.1)

pub iris-preserved : goal.iris-preserved
iris-preserved c =
    subst (λ (xs : List (List ℕ)). HasRead IsGoodIri text_bytes c.in_ok-count.count c.number.new.self.rest.now xs c.read_iri.new.input.rest.now (c.iris._iri + 1)) (sym c.in_ok-push.ensures.pushed)
    (one_read IsGoodIri text_bytes c.in_ok-count.count _ _ _ c.iris._iri c.iris.invariant c.in_ok-iri.iri _ c.iris-test.true (λ iri rest good f. c.in_ok-iri.ensures iri rest good.iri_is good.text_is f))

pub returns : goal.returns
returns c = λ iris more h few e.
    let n = c.in_ok-count.ensures (length iris) (flat_map text_bytes iris ++ more) few.few (e ∙ count_first text_bytes iris more) in
    all_read IsGoodIri text_bytes c.in_ok-count.count _ _ _ c.iris._iri c.iris.invariant c.iris-test.false iris more (good_iris iris h few.each) (sym n.0) n.1
