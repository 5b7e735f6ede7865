use Rattle.std.proofs.Common.{◌≡◌, Err, List, ℕ, ◌++◌, ◌≤◌, length, ap, sym, subst, ◌∙◌}
use Rattle.std.specs.Str.{all_scalars, encode_utf8_all}
use Rattle.man_resolve.specs.Expressions.{knows}
use Rattle.man_text.specs.Blocks.{document_of}
use Rattle.man_text.specs.Readable.{ReadsOntology}
use Rattle.man_text.specs.Text.{document_text, manchester_prefixes, manchester_text}
use Rattle.man_read_back.proofs.OntologyBackLaws.{ontology_reads_back}
use Rattle.owl_arena.specs.Held.{Held}
use Rattle.owl_arena.specs.Shared.{AreShared}
use Rattle.owl_atom.specs.declared.prefixes.Prefix.{Prefix}
use Rattle.owl_atom.specs.Prefixes.{IsTable}
use Rattle.owl_characters.specs.Limit.{most_bytes}
use Rattle.owl_doc.specs.Documents.{ontology_of}
use Rattle.owl_writing.specs.Limits.{IsTooLong}
use Rattle.owl_writing.specs.Tables.{HaveIris, written_prefixes}
use Rattle.owl_writing.specs.declared.fault.WriteFault.TheVariants.{TooLong}
use Rattle.owl_writing.proofs.DraftLaws.{passed_on, too_long_in_bytes}
use Rattle.man_write.specs.Plans.{document_lines}
use Rattle.man_write.proofs.DocumentLaws.{lines_are, text_made, within_limits}
use Rattle.man_write.proofs.writer.write.Goals as goal

pub returns-clause-text : goal.returns-clause-text
returns-clause-text c =
    text_made (knows c.args.kinds.now) c.args.doc.now c.in_ok-prefixes.prefixes c.new-draft.result c.add_document.new.draft c.into_text-text.result
    c.into_text-text.ensures.text c.in_ok-add_document.ensures.ok c.new-draft.ensures (c.in_ok-prefixes.ensures.table ∙ ap manchester_prefixes c.prefixes-2.ensures)

pub returns-in_err-add_document-clause-too_long : goal.returns-in_err-add_document-clause-too_long
returns-in_err-add_document-clause-too_long c = λ e.
    let d = c.args.doc.now in
    let ks = knows c.args.kinds.now in
    let found = passed_on c.from_residual-in_err-add_document.result c.in_err-add_document.field-0.0 TooLong c.from_residual-in_err-add_document.ensures.1 e in
    let long = c.in_err-add_document.ensures.too_long (ap Err found) in
    let afresh = subst (λ (front : List ℕ). IsTooLong (front ++ document_lines ks c.in_ok-prefixes.prefixes d)) c.new-draft.ensures long in
    let whole = subst IsTooLong (lines_are ks c.in_ok-prefixes.prefixes d) afresh in
    let table = c.in_ok-prefixes.ensures.table ∙ ap manchester_prefixes c.prefixes-2.ensures in
    too_long_in_bytes (manchester_text ks d.prefixes (ontology_of d)) (subst (λ (ps : List Prefix). IsTooLong (document_text (document_of ks ps (ontology_of d)))) table whole)

pub returns-clause-reads_back : goal.returns-clause-reads_back
returns-clause-reads_back c = λ can others typed.
    let d = c.args.doc.now in
    let o = ontology_of d in
    let kinds = c.args.kinds.now in
    let text : c.into_text-text.result ≡ manchester_text (knows kinds) d.prefixes o =
    text_made (knows kinds) d c.in_ok-prefixes.prefixes c.new-draft.result c.add_document.new.draft c.into_text-text.result
    c.into_text-text.ensures.text c.in_ok-add_document.ensures.ok c.new-draft.ensures (c.in_ok-prefixes.ensures.table ∙ ap manchester_prefixes c.prefixes-2.ensures) in
    let shared = subst (λ (arena : Held). AreShared arena.trees) c.arena.ensures c.distinct.ensures.shared in
    let table = subst IsTable c.prefixes.ensures c.len.ensures.table in
    let iris = subst (λ (ps : List Prefix). HaveIris (written_prefixes ps)) c.prefixes-2.ensures c.in_ok-prefixes.ensures.iris in
    let scalars = ap all_scalars (sym text) ∙ c.as_str.ensures.scalars in
    let few = subst (λ (t : List ℕ). length (encode_utf8_all t) ≤ most_bytes) text c.into_text-text.ensures.within in
    let is = c.head.ensures.document in
    subst (λ (t : List ℕ). ReadsOntology (encode_utf8_all t) others d.prefixes o) (sym text)
    (ontology_reads_back kinds others d.prefixes o table iris (within_limits d shared is) is.weight scalars few can typed)
