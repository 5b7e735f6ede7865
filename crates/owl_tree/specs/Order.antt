-- The order of trees.
use Rattle.std.specs.declared.cmp.Ordering.{Ordering}
use Rattle.std.specs.declared.cmp.Ordering.TheVariants.{Less, Equal, Greater}
use Rattle.std.specs.Ordering.{nat_cmp, on, ordering_then}
use Rattle.owl_characters.specs.Order.{text_cmp}
use Rattle.rdf_terms.specs.Literals.{literal_cmp}
use Rattle.owl_tree.specs.declared.atom.Atom.{Atom}
use Rattle.owl_tree.specs.declared.atom.Atom.TheVariants.{Iri, Label, Literal, Number}
use Rattle.owl_tree.specs.declared.tag.Tag.{Tag}
use Rattle.owl_tree.specs.Tags.{number_of}
use Rattle.owl_tree.specs.Trees.{Tree, Kids, leaf, node, no_kids, kid}

abbrev pub tag_cmp : Tag → Tag → Ordering
tag_cmp = on number_of nat_cmp

-- IRIs, then labels, literals and numbers, each by their own order
abbrev pub atom_cmp : Atom → Atom → Ordering
atom_cmp (Iri a) (Iri b) = text_cmp a b
atom_cmp (Iri a) b = Less
atom_cmp (Label a) (Iri b) = Greater
atom_cmp (Label a) (Label b) = text_cmp a b
atom_cmp (Label a) (Literal b) = Less
atom_cmp (Label a) (Number b) = Less
atom_cmp (Literal a) (Iri b) = Greater
atom_cmp (Literal a) (Label b) = Greater
atom_cmp (Literal a) (Literal b) = literal_cmp a b
atom_cmp (Literal a) (Number b) = Less
atom_cmp (Number a) (Number b) = nat_cmp a b
atom_cmp (Number a) b = Greater

-- by tag, then by atom or kids, a leaf before a node; kids as words, the first difference decides, and the shorter comes first
abbrev mutual
  pub tree_cmp : Tree → Tree → Ordering
  tree_cmp (leaf t a) (leaf u b) = ordering_then (tag_cmp t u) (atom_cmp a b)
  tree_cmp (leaf t a) (node u ls) = ordering_then (tag_cmp t u) Less
  tree_cmp (node t ks) (leaf u b) = ordering_then (tag_cmp t u) Greater
  tree_cmp (node t ks) (node u ls) = ordering_then (tag_cmp t u) (kids_cmp ks ls)

  pub kids_cmp : Kids → Kids → Ordering
  kids_cmp no_kids no_kids = Equal
  kids_cmp no_kids (kid u ls) = Less
  kids_cmp (kid t ks) no_kids = Greater
  kids_cmp (kid t ks) (kid u ls) = ordering_then (tree_cmp t u) (kids_cmp ks ls)
