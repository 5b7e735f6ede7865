-- The text of a document in Functional-Style Syntax, in characters: one for the prefixes and the ontology (Structural
-- Specification, section 3.7).
use Rattle.std.specs.Prelude.{ℕ, zero, suc, nat_le, if◌then◌else◌, List, [], ◌∷◌, ◌++◌, length, codes, flat_map, Option, None, Some}
use Rattle.std.specs.Fmt.{decimal}
use Rattle.owl_tokens.specs.Tokens.{character_spelling}
use Rattle.owl_atom.specs.declared.prefixes.Prefix.{Prefix}
use Rattle.rdf_terms.specs.Literals.{LiteralParts}
use Rattle.owl_tree.specs.declared.atom.Atom.{Atom}
use Rattle.owl_tree.specs.declared.atom.Atom.TheVariants.{Iri, Label, Literal, Number}
use Rattle.owl_tree.specs.declared.tag.Tag.{Tag}
use Rattle.owl_tree.specs.declared.tag.Tag.TheVariants as tag
use Rattle.owl_tree.specs.declared.row.Rest.TheVariants.{Nothing, Optional, AtLeast, SomeThen, Set}
use Rattle.owl_tree.specs.Ontologies.{Ontology, OntologyName}
use Rattle.owl_tree.specs.Rows.{Row, Leaf, Node, is_tag, row_of, is_bare, is_group}
use Rattle.owl_tree.specs.Tags.{keyword_of}
use Rattle.owl_tree.specs.Trees.{Tree, Kids, leaf, node, no_kids, kid, kids_of, tag_of}
use Rattle.owl_writing.specs.Tables.{written_prefixes}
use Rattle.written_trees.specs.Atoms.{atom_text}
use Rattle.written_trees.specs.Written.{written_form}
use Rattle.owl_writing.specs.Terms.{full_iri, iri_text, label_text, literal_end}

abbrev pub bracketed : List ℕ → List ℕ → List ℕ
bracketed name inside = name ++ (codes "(" ++ (inside ++ codes ")"))

abbrev pub leaf_text : List Prefix → Tag → Tag → Atom → List ℕ
leaf_text prefixes within t a =
    if is_tag tag.Declaration within then bracketed (keyword_of t) (atom_text prefixes a) else atom_text prefixes a

-- with one space between any two
abbrev pub joined : List (List ℕ) → List ℕ
joined [] = []
joined (part ∷ []) = part
joined (part ∷ next ∷ others) = part ++ (codes " " ++ joined (next ∷ others))

-- what stands before the bracket of a node
abbrev pub node_name : Tag → List ℕ
node_name t = if is_group t then [] else keyword_of t

abbrev pub node_parts : Tag → List (List ℕ) → List (List ℕ)
node_parts t inside = if is_bare t then inside else bracketed (node_name t) (joined inside) ∷ []

-- the parts of a tree that stands in a node with this tag: one, but for what stands without brackets
abbrev mutual
  pub parts : List Prefix → Tag → Tree → List (List ℕ)
  parts prefixes within (leaf t a) = leaf_text prefixes within t a ∷ []
  parts prefixes within (node t ks) = node_parts t (parts_of prefixes t ks)

  pub parts_of : List Prefix → Tag → Kids → List (List ℕ)
  parts_of prefixes within no_kids = []
  parts_of prefixes within (kid k ks) = parts prefixes within k ++ parts_of prefixes within ks

abbrev pub tree_text : List Prefix → Tree → List ℕ
tree_text prefixes t = joined (parts prefixes (tag_of t) t)

abbrev pub written_text : List Prefix → Tree → List ℕ
written_text prefixes t = tree_text prefixes (written_form t)

abbrev pub prefix_line : Prefix → List ℕ
prefix_line prefix = codes "Prefix(" ++ (prefix.name ++ (codes ":=" ++ (full_iri prefix.iri ++ codes ")\n")))

abbrev pub version_text : Option (List ℕ) → List ℕ
version_text None = []
version_text (Some iri) = codes " " ++ full_iri iri

abbrev pub name_text : Option OntologyName → List ℕ
name_text None = []
name_text (Some name) = full_iri name.iri ++ version_text name.version

abbrev pub header_line : Option OntologyName → List ℕ
header_line name = codes "Ontology(" ++ (name_text name ++ codes "\n")

abbrev pub import_line : List ℕ → List ℕ
import_line iri = codes "Import(" ++ (full_iri iri ++ codes ")\n")

abbrev pub item_line : List Prefix → Tree → List ℕ
item_line prefixes t = written_text prefixes t ++ codes "\n"

-- the lines of an ontology with these prefixes, in the order of its lists
abbrev pub lines_of : List Prefix → Ontology → List ℕ
lines_of prefixes o =
    flat_map prefix_line prefixes ++ (header_line o.head.name ++ (flat_map import_line o.head.imports ++ (flat_map (item_line prefixes) o.annotations ++ (flat_map (item_line prefixes) o.axioms ++ codes ")\n"))))

-- the text of an ontology in canonical form
abbrev pub text_of : List Prefix → Ontology → List ℕ
text_of prefixes o = lines_of (written_prefixes prefixes) o

-- the text of an axiom, where all IRIs stand in full
abbrev pub axiom_text : Tree → List ℕ
axiom_text t = written_text [] t
