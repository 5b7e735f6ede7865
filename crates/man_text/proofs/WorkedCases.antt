-- The text of an ontology, worked out.
use Rattle.std.specs.Prelude.{◌≡◌, ℕ, List, [], ◌∷◌, codes, None, Some, refl}
use lib.Utf8.{encode}
use Rattle.man_grammar.specs.ClassNumbers.{word_of}
use Rattle.man_resolve.specs.Expressions.{Knows, knows}
use Rattle.man_resolve.specs.Places.{sentence_of}
use Rattle.owl_tree.specs.declared.atom.Atom.TheVariants as atom
use Rattle.owl_tree.specs.declared.tag.Tag.{Tag}
use Rattle.owl_tree.specs.declared.tag.Tag.TheVariants as tag
use Rattle.owl_tree.specs.Rows.{row_of}
use Rattle.owl_tree.specs.Ontologies.{Ontology}
use Rattle.std.specs.Fmt.{digits}
use Rattle.owl_tree.specs.Trees.{Tree, kids_of, leaf, node, no_kids}
use Rattle.man_text.specs.Blocks.{document_of, entity_heading, where_of}
use Rattle.man_text.specs.Text.{document_text, section_front}
use Rattle.man_text.specs.Undecided.{form_of, is_bracketed, is_counted, leaf_what}
use Rattle.man_text.specs.Words.{heading_class, list_gap, section_class, words_of}

abbrev name : Tag → List ℕ → Tree
name t iri = leaf t (atom.Iri iri)

abbrev over : Tag → List Tree → Tree
over t ts = node t (kids_of ts)

abbrev bare : Tree
bare = node tag.Notes no_kids

abbrev some_kinds : Knows
some_kinds = knows []

abbrev menu : Ontology
menu = record {
  head = record { name = Some (record { iri = codes "a:o"; version = None }); imports = [] };
  annotations = [];
  axioms =
      over tag.Declaration (bare ∷ name tag.Class (codes "a:A") ∷ [])
      ∷ over tag.SubClassOf
      (bare ∷ name tag.Class (codes "a:A") ∷ over tag.ObjectIntersectionOf
      (over tag.ObjectSomeValuesFrom (name tag.ObjectProperty (codes "a:q") ∷ over tag.ObjectUnionOf (name tag.Class (codes "a:A") ∷ name tag.Class (codes "a:B") ∷ []) ∷ [])
      ∷ over tag.ObjectMinCardinality (leaf tag.Number (atom.Number 1) ∷ name tag.ObjectProperty (codes "a:p") ∷ []) ∷ []) ∷ [])
      ∷ [];
}

menu_text : document_text (document_of some_kinds [] menu) ≡ codes "Ontology: <a:o>\nClass: <a:A>\nClass: <a:A>\n    SubClassOf: (<a:q> some (<a:A> or <a:B>)) and (<a:p> min 1)\n"
unfolding encode digits words_of heading_class section_class section_front word_of where_of sentence_of form_of is_bracketed is_counted leaf_what row_of entity_heading list_gap
menu_text = refl
