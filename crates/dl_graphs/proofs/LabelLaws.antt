-- Trees that hold no label.
use Rattle.std.proofs.Common.{◌≡◌, ℕ, true, List, refl}
use Rattle.std.specs.Prelude.{None}
use Rattle.dl_rules.specs.Logical.{label_in}
use Rattle.owl_tree.specs.declared.atom.Atom.TheVariants as atom
use Rattle.owl_tree.specs.declared.tag.Tag.{Tag}
use Rattle.owl_tree.specs.declared.tag.Tag.TheVariants as tag
use Rattle.owl_tree.specs.Rows.{row_of, takes}
use Rattle.owl_tree.specs.Shape.{IsShaped}
use Rattle.owl_tree.specs.Trees.{Tree, leaf, node, tag_of}

label_tag : (t : Tag) (label : List ℕ) → takes (row_of t) (atom.Label label) ≡ true → t ≡ tag.Anonymous
unfolding row_of
label_tag tag.Anonymous label h = refl
label_tag _ label h = absurd (cc)

pub holds_no_label : (t : Tree) → IsShaped t → (tag_of t ≡ tag.Anonymous → ⊥) → label_in t ≡ None
holds_no_label (leaf t (atom.Label label)) h differs = absurd (differs (label_tag t label h.0))
holds_no_label (leaf t (atom.Iri iri)) h differs = refl
holds_no_label (leaf t (atom.Literal l)) h differs = refl
holds_no_label (leaf t (atom.Number n)) h differs = refl
holds_no_label (node t ks) h differs = refl
