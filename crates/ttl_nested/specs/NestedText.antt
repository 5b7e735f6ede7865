-- The text of lines in Turtle, in characters (RDF 1.1 Turtle, sections 2.7 and 2.8).
use Rattle.std.specs.Prelude.{ℕ, List, [], ◌++◌, codes, flat_map}
use Rattle.owl_atom.specs.declared.prefixes.Prefix.{Prefix}
use Rattle.owl_writing.specs.Tables.{written_prefixes}
use Rattle.owl_writing.specs.Terms.{iri_text}
use Rattle.ttl_write.specs.Text.{prefix_line, term_text}
use Rattle.ttl_nested.specs.Forms.{Cells, Form, Line, Pairs}
use Rattle.ttl_nested.specs.Forms.Form.{plain, round, square}
use Rattle.ttl_nested.specs.Forms.Cells.{cell, no_cells}
use Rattle.ttl_nested.specs.Forms.Pairs.{no_pairs, pair}

-- in front of pairs that stand behind one
abbrev pub separator : Pairs → List ℕ
separator no_pairs = []
separator (pair predicate object more) = codes "; "

abbrev mutual
  pub form_text : List Prefix → Form → List ℕ
  form_text prefixes (plain term) = term_text prefixes term
  form_text prefixes (round label element cells) =
      codes "( " ++ (form_text prefixes element ++ (codes " " ++ (cells_text prefixes cells ++ codes ")")))
  form_text prefixes (square label pairs) = codes "[ " ++ (pairs_text prefixes pairs ++ codes "]")

  pub cells_text : List Prefix → Cells → List ℕ
  cells_text prefixes no_cells = []
  cells_text prefixes (cell label element cells) = form_text prefixes element ++ (codes " " ++ cells_text prefixes cells)

  pub pairs_text : List Prefix → Pairs → List ℕ
  pairs_text prefixes no_pairs = []
  pairs_text prefixes (pair predicate object more) =
      iri_text prefixes predicate ++ (codes " " ++ (form_text prefixes object ++ (codes " " ++ (separator more ++ pairs_text prefixes more))))

abbrev pub line_text : List Prefix → Line → List ℕ
line_text prefixes line =
    term_text prefixes line.subject ++ (codes " " ++ (iri_text prefixes line.predicate ++ (codes " " ++ (form_text prefixes line.object ++ codes " .\n"))))

-- these lines with these prefixes
abbrev pub nested_lines : List Prefix → List Line → List ℕ
nested_lines prefixes lines = flat_map prefix_line prefixes ++ flat_map (line_text prefixes) lines

-- the whole text
abbrev pub nested_text : List Prefix → List Line → List ℕ
nested_text prefixes lines = nested_lines (written_prefixes prefixes) lines
