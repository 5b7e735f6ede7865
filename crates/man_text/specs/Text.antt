-- The text of a document in Manchester Syntax, in characters (sections 2.1 to 2.6). What is written stands in front of more.
use Rattle.std.specs.Prelude.{ℕ, Bool, false, not, filter, List, [], ◌∷◌, ◌++◌, codes, map, Option, None, Some}
use Rattle.std.specs.List.{list_any}
use Rattle.man_grammar.specs.ClassNumbers.{colon_keywords, word_of}
use Rattle.man_grammar.specs.declared.class.Class.TheVariants as class
use Rattle.man_raw.specs.declared.document.RawPart.{RawPart}
use Rattle.man_raw.specs.declared.form.Form.TheVariants as form
use Rattle.man_raw.specs.declared.form.What.{What}
use Rattle.man_raw.specs.declared.form.What.TheVariants as what
use Rattle.man_raw.specs.declared.heading.Section.{Section}
use Rattle.man_raw.specs.declared.heading.Section.TheVariants as section
use Rattle.man_raw.specs.Documents.{DocumentTree, HeadTree, ItemTree}
use Rattle.man_raw.specs.Raws.{RawTree, RawTrees, raw, none, more}
use Rattle.man_resolve.specs.Expressions.{Knows}
use Rattle.owl_atom.specs.declared.prefixes.Prefix.{Prefix}
use Rattle.owl_characters.specs.Order.{text_eq}
use Rattle.owl_tree.specs.Ontologies.{Ontology}
use Rattle.owl_writing.specs.Tables.{written_prefixes}
use Rattle.owl_writing.specs.Terms.{full_iri}
use Rattle.written_trees.specs.Atoms.{atom_text}
use Rattle.man_text.specs.Blocks.{document_of}
use Rattle.man_text.specs.Words.{Words, between, characteristic_class, colon, facet_text, heading_class, list_gap, section_class, words_of}

-- ---- pieces

-- a piece without parts; annotations of which there are none are not written
abbrev pub leaf_text : List Prefix → What → List ℕ
leaf_text prefixes (what.Atom a) = atom_text prefixes a
leaf_text prefixes (what.Word w) = word_of (characteristic_class w)
leaf_text prefixes (what.Facet f) = facet_text f
leaf_text prefixes (what.Form f) = []

abbrev pub words_in : What → Words
words_in (what.Form f) = words_of f
words_in w = between []

abbrev mutual
  pub text : List Prefix → RawTree → List ℕ → List ℕ
  text prefixes (raw at w none) rest = leaf_text prefixes w ++ rest
  text prefixes (raw at w (more t ts)) rest =
      (words_in w).front ++ text prefixes t (behind prefixes (words_in w).first (words_in w).others ts ((words_in w).last ++ rest))

  -- parts behind a part, with this in front of the first of them and that in front of the others
  pub behind : List Prefix → List ℕ → List ℕ → RawTrees → List ℕ → List ℕ
  behind prefixes first others none rest = rest
  behind prefixes first others (more t ts) rest = first ++ text prefixes t (behind prefixes others others ts rest)

-- ---- items

-- the members of a list stand as the section has them
abbrev pub body_text : List Prefix → Section → RawTree → List ℕ → List ℕ
body_text prefixes s (raw at (what.Form form.List) (more t ts)) rest = text prefixes t (behind prefixes (list_gap s) (list_gap s) ts rest)
body_text prefixes s t rest = text prefixes t rest

-- a line of its own, but for the members of an item that is no frame
unfoldable pub section_front : Section → List ℕ
section_front section.Members = codes " "
section_front s = codes "\n    " ++ (colon (section_class s) ++ codes " ")

abbrev pub part_text : List Prefix → RawPart → List ℕ → List ℕ
part_text prefixes part rest = section_front part.section ++ text prefixes part.notes (body_text prefixes part.section part.body rest)

abbrev pub parts_text : List Prefix → List RawPart → List ℕ → List ℕ
parts_text prefixes [] rest = rest
parts_text prefixes (part ∷ parts) rest = part_text prefixes part (parts_text prefixes parts rest)

abbrev pub name_text : List Prefix → Option RawTree → List ℕ → List ℕ
name_text prefixes None rest = rest
name_text prefixes (Some t) rest = codes " " ++ text prefixes t rest

abbrev pub item_text : List Prefix → ItemTree → List ℕ → List ℕ
item_text prefixes item rest = colon (heading_class item.heading) ++ name_text prefixes item.name (parts_text prefixes item.parts (codes "\n" ++ rest))

abbrev pub items_text : List Prefix → List ItemTree → List ℕ → List ℕ
items_text prefixes [] rest = rest
items_text prefixes (item ∷ items) rest = item_text prefixes item (items_text prefixes items rest)

-- ---- documents

abbrev pub prefix_line : Prefix → List ℕ → List ℕ
prefix_line prefix rest = colon class.Prefix ++ (codes " " ++ (prefix.name ++ (codes ": " ++ (full_iri prefix.iri ++ (codes "\n" ++ rest)))))

abbrev pub prefix_lines : List Prefix → List ℕ → List ℕ
prefix_lines [] rest = rest
prefix_lines (prefix ∷ prefixes) rest = prefix_line prefix (prefix_lines prefixes rest)

-- an IRI behind a space, if it is there
abbrev pub iri_behind : Option (List ℕ) → List ℕ → List ℕ
iri_behind None rest = rest
iri_behind (Some iri) rest = codes " " ++ (full_iri iri ++ rest)

abbrev pub import_lines : List (List ℕ) → List ℕ → List ℕ
import_lines [] rest = rest
import_lines (iri ∷ iris) rest = colon class.Import ++ (codes " " ++ (full_iri iri ++ (codes "\n" ++ import_lines iris rest)))

abbrev pub head_lines : HeadTree → List ℕ → List ℕ
head_lines h rest = colon class.Ontology ++ iri_behind h.iri (iri_behind h.version (codes "\n" ++ import_lines h.imports rest))

-- the annotations of the ontology, of which nothing is behind
abbrev pub notes_line : List Prefix → RawTree → List ℕ → List ℕ
notes_line prefixes (raw at w none) rest = rest
notes_line prefixes (raw at w (more t ts)) rest =
    (words_in w).front ++ text prefixes t (behind prefixes (words_in w).first (words_in w).others ts (codes "\n" ++ rest))

abbrev pub notes_lines : List Prefix → List RawTree → List ℕ → List ℕ
notes_lines prefixes [] rest = rest
notes_lines prefixes (t ∷ ts) rest = notes_line prefixes t (notes_lines prefixes ts rest)

abbrev pub document_text : DocumentTree → List ℕ
document_text d = prefix_lines d.prefixes (head_lines d.head (notes_lines d.prefixes d.notes (items_text d.prefixes d.items [])))

-- ---- ontologies

-- a prefix can't have the name of a keyword in front of a colon
unfoldable pub is_keyword : List ℕ → Bool
is_keyword name = list_any (λ c. text_eq (word_of c) name) colon_keywords

-- the name and the IRI of a prefix, of which no mark is written
abbrev pub unmarked : Prefix → Prefix
unmarked prefix = record { name = prefix.name; iri = prefix.iri; fixed = false; declared = false }

abbrev pub manchester_prefixes : List Prefix → List Prefix
manchester_prefixes prefixes = map unmarked (filter (λ (prefix : Prefix). not (is_keyword prefix.name)) (written_prefixes prefixes))

-- the text of an ontology in canonical form, with these prefixes, where the names have these kinds
abbrev pub manchester_text : Knows → List Prefix → Ontology → List ℕ
manchester_text ks prefixes o = document_text (document_of ks (manchester_prefixes prefixes) o)
