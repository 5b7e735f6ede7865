-- Laws of leaves by their shapes.
use Rattle.std.proofs.Common.{◌≡◌, ℕ, true, List, refl, ap, ◌∙◌, subst}
use Rattle.std.specs.Prelude.{map}
use Rattle.owl_tree.specs.declared.atom.Atom.{Atom}
use Rattle.owl_tree.specs.declared.atom.Atom.TheVariants as atom
use Rattle.owl_tree.specs.declared.row.AtomSort.{AtomSort}
use Rattle.owl_tree.specs.declared.row.AtomSort.TheVariants as sort
use Rattle.owl_tree.specs.declared.tag.Tag.{Tag}
use Rattle.owl_tree.specs.declared.tag.Tag.TheVariants as tag
use Rattle.owl_tree.specs.Rows.{Row, Leaf, fits, is_of_sort, row_of, takes}
use Rattle.owl_tree.specs.Shape.{IsShaped}
use Rattle.owl_tree.specs.Trees.{Tree, leaf, node, list_of, tag_of}

-- a leaf with this tag, and an atom of the sort that the tag's row asks for
pub record IsLeafOf (u : Tag) (s : AtomSort) (t : Tree) : Type 0 where
  pub atom : Atom
  pub is : t ≡ leaf u atom
  pub sort : is_of_sort s atom ≡ true

pub shaped_leaf : (t : Tree) (u : Tag) (s : AtomSort) → row_of u ≡ Leaf s → IsShaped t → tag_of t ≡ u → IsLeafOf u s t
shaped_leaf (leaf t a) u s row h e = record { atom = a; is = ap (λ (v : Tag). leaf v a) e; sort = subst (λ (r : Row). takes r a ≡ true) (ap row_of e ∙ row) h.0 }
shaped_leaf (node t ks) u s row h e = let f = subst (λ (r : Row). fits r (map tag_of (list_of ks)) ≡ true) (ap row_of e ∙ row) h.0.row in absurd (cc)

iri_of_sort : (a : Atom) → is_of_sort sort.Iri a ≡ true → (iri : List ℕ) × (a ≡ atom.Iri iri)
iri_of_sort (atom.Iri iri) h = (iri, refl)
iri_of_sort (atom.Label l) h = absurd (cc)
iri_of_sort (atom.Literal l) h = absurd (cc)
iri_of_sort (atom.Number n) h = absurd (cc)

label_of_sort : (a : Atom) → is_of_sort sort.Label a ≡ true → (label : List ℕ) × (a ≡ atom.Label label)
label_of_sort (atom.Label label) h = (label, refl)
label_of_sort (atom.Iri iri) h = absurd (cc)
label_of_sort (atom.Literal l) h = absurd (cc)
label_of_sort (atom.Number n) h = absurd (cc)

pub iri_leaf : (t : Tree) (u : Tag) → row_of u ≡ Leaf sort.Iri → IsShaped t → tag_of t ≡ u → (iri : List ℕ) × (t ≡ leaf u (atom.Iri iri))
iri_leaf t u row h e =
    let l = shaped_leaf t u sort.Iri row h e in
    let a = iri_of_sort l.atom l.sort in
    (a.0, l.is ∙ ap (leaf u) a.1)

anonymous_row : row_of tag.Anonymous ≡ Leaf sort.Label
unfolding row_of
anonymous_row = refl

-- anonymous individuals are those leaves that hold a label
pub anonymous_leaf : (t : Tree) → IsShaped t → tag_of t ≡ tag.Anonymous → (label : List ℕ) × (t ≡ leaf tag.Anonymous (atom.Label label))
anonymous_leaf t h e =
    let l = shaped_leaf t tag.Anonymous sort.Label anonymous_row h e in
    let a = label_of_sort l.atom l.sort in
    (a.0, l.is ∙ ap (leaf tag.Anonymous) a.1)
