use Rattle.std.proofs.Common.{◌≡◌, Err, List, ℕ, ◌++◌, ◌≤◌, length, ap, sym, subst, ◌∙◌}
use Rattle.std.specs.Str.{all_scalars, encode_utf8_all}
use Rattle.owl_atom.specs.declared.prefixes.Prefix.{Prefix}
use Rattle.owl_atom.specs.Prefixes.{IsTable}
use Rattle.owl_arena.specs.Held.{Held}
use Rattle.owl_arena.specs.Shared.{AreShared}
use Rattle.owl_doc.specs.Documents.{ontology_of}
use Rattle.fss_terms.specs.Functional.{ReadsFunctional}
use Rattle.owl_characters.specs.Limit.{most_bytes}
use Rattle.owl_writing.specs.Tables.{HaveIris, declared_prefixes, written_prefixes}
use Rattle.owl_writing.specs.Limits.{IsTooLong}
use Rattle.fss_write.specs.Text.{lines_of, text_of}
use Rattle.owl_writing.specs.declared.fault.WriteFault.TheVariants.{TooLong}
use Rattle.owl_writing.proofs.DraftLaws.{passed_on, too_long_in_bytes}
use Rattle.fss_write.proofs.ReadsBack.{document_reads_back}
use Rattle.fss_write.proofs.writer.write.Goals as goal

pub returns-in_err-add_document-clause-too_long : goal.returns-in_err-add_document-clause-too_long
returns-in_err-add_document-clause-too_long c = λ e.
    let o = ontology_of c.args.doc.now in
    let found = passed_on c.from_residual-in_err-add_document.result c.in_err-add_document.field-0.0 TooLong c.from_residual-in_err-add_document.ensures.1 e in
    let long = c.in_err-add_document.ensures.too_long (ap Err found) in
    let table = c.in_ok-prefixes.ensures ∙ ap written_prefixes c.prefixes-2.ensures in
    let afresh = subst (λ (front : List ℕ). IsTooLong (front ++ lines_of c.in_ok-prefixes.prefixes o)) c.new-draft.ensures long in
    too_long_in_bytes (text_of c.args.doc.now.prefixes o) (subst (λ (prefixes : List Prefix). IsTooLong (lines_of prefixes o)) table afresh)

pub returns-clause-reads_back : goal.returns-clause-reads_back
returns-clause-reads_back c =
    let d = c.args.doc.now in
    let o = ontology_of d in
    let prefixes = c.in_ok-prefixes.ensures ∙ ap written_prefixes c.prefixes-2.ensures in
    let text : c.into_text-text.result ≡ text_of d.prefixes o =
    c.into_text-text.ensures.text
    ∙ c.in_ok-add_document.ensures.ok
    ∙ ap (λ (front : List ℕ). front ++ lines_of c.in_ok-prefixes.prefixes o) c.new-draft.ensures
    ∙ ap (λ (ps : List Prefix). lines_of ps o) prefixes in
    let shared = subst (λ (arena : Held). AreShared arena.trees) c.arena.ensures c.distinct.ensures.shared in
    let table = subst IsTable c.prefixes.ensures c.len.ensures.table in
    let iris = subst HaveIris prefixes c.in_ok-add_document.ensures.iris in
    let scalars = ap all_scalars (sym text) ∙ c.as_str.ensures.scalars in
    let few = subst (λ (t : List ℕ). length (encode_utf8_all t) ≤ most_bytes) text c.into_text-text.ensures.within in
    subst (λ (t : List ℕ). ReadsFunctional (encode_utf8_all t) (declared_prefixes d.prefixes) o) (sym text)
    (document_reads_back d c.head.ensures.document shared table iris scalars few)
