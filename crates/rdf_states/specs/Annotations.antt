-- Annotations as the Structural Specification has them (section 10.1).
use Rattle.std.specs.Prelude.{◌≡◌, ℕ, true, List}
use Rattle.owl_tree.specs.Atoms.{IsAtom}
use Rattle.owl_tree.specs.declared.atom.Atom.{Atom}
use Rattle.owl_tree.specs.declared.atom.Atom.TheVariants as atom
use Rattle.owl_tree.specs.declared.row.Sort.TheVariants as sort
use Rattle.owl_tree.specs.declared.tag.Tag.{Tag}
use Rattle.owl_tree.specs.declared.tag.Tag.TheVariants as tag
use Rattle.owl_tree.specs.Rows.{admits, row_of, takes}
use Rattle.owl_tree.specs.Trees.{Tree, Kids, leaf, node, no_kids, kid}

-- the annotation of the property and the value, with annotations of its own
abbrev pub annotation_of : List ℕ → Tag → Atom → Kids → Tree
annotation_of p value v ns = node tag.Annotation (kid (node tag.Notes ns) (kid (leaf tag.AnnotationProperty (atom.Iri p)) (kid (leaf value v) no_kids)))

-- the tag may have the atom, and the leaf may be the value of an annotation
pub record IsValue (value : Tag) (v : Atom) : Type 0 where
  pub admitted : admits sort.AnnotationValue value ≡ true
  pub taken : takes (row_of value) v ≡ true
  pub is_atom : IsAtom v

-- each of the kids is an annotation, and so down to the last of their own
pub data AreAnnotations : Kids → Type 0 where
  none : AreAnnotations no_kids
  one : (p : List ℕ) (value : Tag) (v : Atom) (ns ks : Kids) → IsValue value v → AreAnnotations ns → AreAnnotations ks →
      AreAnnotations (kid (annotation_of p value v ns) ks)
