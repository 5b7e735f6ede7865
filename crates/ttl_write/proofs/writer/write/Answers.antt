use Rattle.std.proofs.Common.{◌≡◌, ◌≤◌, ◌∙◌, Err, List, ℕ, Option, ◌++◌, ap, length, subst, sym}
use Rattle.std.specs.Str.{all_scalars, encode_utf8_all}
use Rattle.owl_characters.specs.Limit.{most_bytes}
use Rattle.owl_atom.specs.declared.prefixes.Prefix.{Prefix}
use Rattle.owl_writing.proofs.DraftLaws.{passed_on, too_long_in_bytes}
use Rattle.owl_writing.specs.Limits.{IsTooLong}
use Rattle.owl_writing.specs.Tables.{HaveIris, written_prefixes}
use Rattle.ttl_grammar.specs.Documents.{ReadsTurtle}
use Rattle.owl_writing.specs.declared.fault.WriteFault.TheVariants.{TooLong}
use Rattle.ttl_write.specs.Text.{lines_of, turtle_text}
use Rattle.ttl_write.proofs.ReadBackLaws.{graph_reads_back}
use Rattle.ttl_write.proofs.writer.write.Goals as goal

pub returns-in_err-add_graph-clause-too_long : goal.returns-in_err-add_graph-clause-too_long
returns-in_err-add_graph-clause-too_long c = λ e.
    let graph = c.args.graph.now in
    let found = passed_on c.from_residual-in_err-add_graph.result c.in_err-add_graph.field-0.0 TooLong c.from_residual-in_err-add_graph.ensures.1 e in
    let long = c.in_err-add_graph.ensures.too_long (ap Err found) in
    let afresh = subst (λ (front : List ℕ). IsTooLong (front ++ lines_of c.in_ok-prefixes.prefixes graph)) c.new-draft.ensures long in
    too_long_in_bytes (turtle_text c.args.prefixes.now graph) (subst (λ (prefixes : List Prefix). IsTooLong (lines_of prefixes graph)) c.in_ok-prefixes.ensures afresh)

pub returns-clause-reads_back : goal.returns-clause-reads_back
returns-clause-reads_back c =
    let graph = c.args.graph.now in
    let prefixes = c.args.prefixes.now in
    let text : c.into_text-text.result ≡ turtle_text prefixes graph =
    c.into_text-text.ensures.text
    ∙ c.in_ok-add_graph.ensures.ok
    ∙ ap (λ (front : List ℕ). front ++ lines_of c.in_ok-prefixes.prefixes graph) c.new-draft.ensures
    ∙ ap (λ (ps : List Prefix). lines_of ps graph) c.in_ok-prefixes.ensures in
    let iris = subst HaveIris c.in_ok-prefixes.ensures c.in_ok-add_graph.ensures.iris in
    let scalars = ap all_scalars (sym text) ∙ c.as_str.ensures.scalars in
    let few = subst (λ (t : List ℕ). length (encode_utf8_all t) ≤ most_bytes) text c.into_text-text.ensures.within in
    subst (λ (t : List ℕ). (base : Option (List ℕ)) → ReadsTurtle base (encode_utf8_all t) (written_prefixes prefixes) graph) (sym text)
    (λ base. graph_reads_back base prefixes graph c.len-2.ensures.table iris c.len.ensures.graph c.in_ok-add_graph.ensures.formed scalars few)
