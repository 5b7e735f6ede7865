use Rattle.std.proofs.Common.{◌≡◌, ◌∙◌, ℕ, List, Option, IfSome, subst}
use Rattle.std.proofs.lemmas.Result.{IfOk-weaker, IfErr-weaker}
use Rattle.owl_documents.specs.Documents.{parsed_of}
use Rattle.owl_documents.specs.Reading.{AreReadAgainst, IsDefectAgainst}
use Rattle.owl_documents.specs.declared.document.Document.{Document}
use Rattle.owl_documents.specs.declared.document.Syntax.TheVariants.{Canonical}
use Rattle.owl_documents.specs.declared.trouble.Trouble.{Trouble}
use Rattle.owl_documents.proofs.canonical.BytesReaderDocumentReader.document.Goals as goal

pub returns-in-Some-clause-reads : goal.returns-in-Some-clause-reads
returns-in-Some-clause-reads c =
    IfOk-weaker c.document_of.result _ _ (λ (document : Document) r base bytes fed.
    let kept : c.in-Some.bytes.items ≡ bytes = subst (λ o. IfSome o (λ k. k.items ≡ bytes)) c.in-Some.is fed in
    let value = c.as_slice.ensures.value in
    let is = c.in-Some.is in
    let whole : c.as_slice.result.now ≡ bytes = cc in
    subst (λ (bs : List ℕ). AreReadAgainst base Canonical bs (parsed_of document)) whole (r base)) c.document_of.ensures.reads

pub returns-in-Some-clause-refuses : goal.returns-in-Some-clause-refuses
returns-in-Some-clause-refuses c =
    IfErr-weaker c.document_of.result _ _ (λ (trouble : Trouble) d base bytes fed.
    let kept : c.in-Some.bytes.items ≡ bytes = subst (λ o. IfSome o (λ k. k.items ≡ bytes)) c.in-Some.is fed in
    let value = c.as_slice.ensures.value in
    let is = c.in-Some.is in
    let whole : c.as_slice.result.now ≡ bytes = cc in
    subst (λ (bs : List ℕ). IsDefectAgainst base Canonical bs trouble) whole (d base)) c.document_of.ensures.refuses
