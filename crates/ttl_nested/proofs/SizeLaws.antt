-- Of a text of lines there are no more triples, and labels that are not written, than three for each of its characters.
use Rattle.std.proofs.Common.{◌≤◌, ◌+◌, ◌*◌, ℕ, List, [], ◌∷◌, ◌++◌, length, codes, arith}
use Rattle.std.specs.Prelude.{flat_map}
use Rattle.std.proofs.lemmas.List.{length-append}
use Rattle.owl_atom.specs.declared.prefixes.Prefix.{Prefix}
use Rattle.owl_writing.specs.Tables.{written_prefixes}
use Rattle.owl_writing.specs.Terms.{iri_text}
use Rattle.rdf_graph.specs.declared.term.Term.TheVariants.{Blank}
use Rattle.ttl_grammar.specs.States.{first_iri}
use Rattle.ttl_nested.specs.Forms.{Cells, Form, Line, Pairs}
use Rattle.ttl_nested.specs.Forms.Form.{plain, round, square}
use Rattle.ttl_nested.specs.Forms.Cells.{cell, no_cells}
use Rattle.ttl_nested.specs.Forms.Pairs.{no_pairs, pair}
use Rattle.ttl_nested.specs.NestedText.{cells_text, form_text, line_text, nested_text, pairs_text, separator}
use Rattle.ttl_nested.proofs.FormLaws.{cells_labels, cells_triples, form_labels, form_term, form_triples, lines_labels, lines_triples, pairs_labels, pairs_triples, triple_of}
use Rattle.ttl_write.specs.Text.{prefix_line, term_text}

module _ (prefixes : List Prefix) where
  mutual
    form_few : (form : Form) → length (form_labels form) + length (form_triples form) ≤ 3 * length (form_text prefixes form)
    form_few (plain term) = omega arith
    form_few (round label element cells) =
        omega (
          arith,
          form_few element,
          cells_few label cells,
          length-append (form_labels element) (cells_labels cells),
          length-append (form_triples element) (triple_of (Blank label) first_iri (form_term element) ∷ cells_triples label cells),
          length-append (form_text prefixes element) (32 ∷ (cells_text prefixes cells ++ codes ")")),
          length-append (cells_text prefixes cells) (codes ")"),
        )
    form_few (square label pairs) = omega (arith, pairs_few label pairs, length-append (pairs_text prefixes pairs) (codes "]"))

    cells_few : (last : List ℕ) (cells : Cells) → length (cells_labels cells) + length (cells_triples last cells) ≤ 3 * length (cells_text prefixes cells) + 1
    cells_few last no_cells = omega arith
    cells_few last (cell label element cells) =
        omega (
          arith,
          form_few element,
          cells_few label cells,
          length-append (form_labels element) (cells_labels cells),
          length-append (form_triples element) (triple_of (Blank label) first_iri (form_term element) ∷ cells_triples label cells),
          length-append (form_text prefixes element) (32 ∷ cells_text prefixes cells),
        )

    pairs_few : (label : List ℕ) (pairs : Pairs) → length (pairs_labels pairs) + length (pairs_triples label pairs) ≤ 3 * length (pairs_text prefixes pairs)
    pairs_few label no_pairs = omega arith
    pairs_few label (pair predicate object more) =
        omega (
          arith,
          form_few object,
          pairs_few label more,
          length-append (form_labels object) (pairs_labels more),
          length-append (form_triples object) (triple_of (Blank label) predicate (form_term object) ∷ pairs_triples label more),
          length-append (iri_text prefixes predicate) (32 ∷ (form_text prefixes object ++ 32 ∷ (separator more ++ pairs_text prefixes more))),
          length-append (form_text prefixes object) (32 ∷ (separator more ++ pairs_text prefixes more)),
          length-append (separator more) (pairs_text prefixes more),
        )

  few_lines : (lines : List Line) → length (lines_labels lines) + length (lines_triples lines) ≤ 3 * length (flat_map (line_text prefixes) lines)
  few_lines [] = omega arith
  few_lines (line ∷ lines) =
      omega (
        arith,
        form_few line.object,
        few_lines lines,
        length-append (form_labels line.object) (lines_labels lines),
        length-append (form_triples line.object) (triple_of line.subject line.predicate (form_term line.object) ∷ lines_triples lines),
        length-append (line_text prefixes line) (flat_map (line_text prefixes) lines),
        length-append (term_text prefixes line.subject) (32 ∷ (iri_text prefixes line.predicate ++ 32 ∷ (form_text prefixes line.object ++ codes " .\n"))),
        length-append (iri_text prefixes line.predicate) (32 ∷ (form_text prefixes line.object ++ codes " .\n")),
        length-append (form_text prefixes line.object) (codes " .\n"),
      )

pub lines_few : (prefixes : List Prefix) (lines : List Line) → length (lines_labels lines) + length (lines_triples lines) ≤ 3 * length (nested_text prefixes lines)
lines_few prefixes lines =
    let written = written_prefixes prefixes in
    omega (arith, few_lines written lines, length-append (flat_map prefix_line written) (flat_map (line_text written) lines))
