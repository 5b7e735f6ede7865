-- The text of lines reads back to what the reader states of them.
use Rattle.std.proofs.Common.{◌≡◌, ◌≤◌, ℕ, true, Option, List, [], length, codes, refl, sym, ap, ◌∙◌, subst}
use Rattle.std.specs.Prelude.{flat_map}
use Rattle.std.specs.List.{AllByRecursion}
use Rattle.std.specs.Str.{all_scalars, encode_utf8_all}
use Rattle.grammar.proofs.AlikeLaws.{derives_alike}
use Rattle.owl_atom.specs.Prefixes.{IsTable}
use Rattle.owl_atom.specs.declared.prefixes.Prefix.{Prefix}
use Rattle.owl_characters.specs.Limit.{most_bytes}
use Rattle.owl_writing.proofs.WrittenTableLaws.{written_table}
use Rattle.owl_writing.specs.Tables.{HaveIris, written_prefixes}
use Rattle.rdf_graph.specs.Graphs.{most_triples}
use Rattle.rdf_graph.specs.declared.triple.Triple.{Triple}
use Rattle.rdf_terms.specs.Vocabulary.{xsd}
use Rattle.ttl_grammar.proofs.PageLaws.{table_to_page}
use Rattle.ttl_grammar.specs.Documents.{AreNamespaces, ReadsTurtle}
use Rattle.ttl_grammar.specs.Labels.{graph_of}
use Rattle.ttl_grammar.specs.States.{State, most_nests, no_nest}
use Rattle.ttl_nested.specs.Forms.{Line}
use Rattle.ttl_nested.specs.NestedText.{line_text, nested_text}
use Rattle.ttl_nested.proofs.ReadLaws.{starts_lines}
use Rattle.ttl_nested.proofs.ReadingLaws.{IsFormedLine, IsWithin, behind_lines, nothing_made}
use Rattle.ttl_write.proofs.LineLaws.{declared_behind, starts_prefixes}
use Rattle.ttl_write.proofs.ReadBackLaws.{declared_agree, splits_text, unmarked}

-- the state behind the text
record IsRead (written : List Prefix) (lines : List Line) (state : State) : Type 0 where
  namespaces : state.names.namespaces ≡ declared_behind written []
  triples : state.facts.triples ≡ (behind_lines lines nothing_made).triples

-- a text of lines that is not too long is read as the graph of what is stated of them, against any base
pub lines_read_back : (base : Option (List ℕ)) (prefixes : List Prefix) (lines : List Line) (graph : List Triple) (n : ℕ) → IsTable prefixes → HaveIris (written_prefixes prefixes)
    → AllByRecursion IsFormedLine lines → AllByRecursion (λ line. IsWithin n line.object) lines → n ≤ most_nests
    → all_scalars (nested_text prefixes lines) ≡ true → length (encode_utf8_all (nested_text prefixes lines)) ≤ most_bytes
    → graph ≡ graph_of (behind_lines lines nothing_made).triples → length graph ≤ most_triples
    → ReadsTurtle base (encode_utf8_all (nested_text prefixes lines)) (written_prefixes prefixes) graph
lines_read_back base prefixes lines graph n table iris formed within nests scalars few is small =
    let written = written_prefixes prefixes in
    let is_table = written_table prefixes table in
    let agree = declared_agree written is_table.ascending in
    let wanted = IsRead written lines in
    let text = flat_map (line_text written) lines in
    let read = λ (declaring : List ℕ).
    starts_lines base written (declared_behind written []) is_table agree declaring wanted lines n [] no_nest nothing_made formed within nests (λ form nest. record { namespaces = refl; triples = refl }) in
    let cut = (starts_prefixes wanted base [] no_nest [] written [] [] text is_table.names iris read).1 0 in
    let reads = cut.2 in
    record {
      placed = cut.0;
      few = few;
      splits = splits_text (nested_text prefixes lines) cut.0 (unmarked (codes "xsd") (xsd []) _ text) scalars cut.1;
      spells = record {
        events = reads.events;
        state = reads.final;
        derives = derives_alike table_to_page reads.derives;
        states = reads.runs;
        namespaces = subst (AreNamespaces written) (sym reads.is.namespaces) agree;
        graph_is = is ∙ ap graph_of (sym reads.is.triples);
        few = small;
      };
    }
