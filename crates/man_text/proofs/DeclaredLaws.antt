-- The declarations of names.
use Rattle.std.proofs.Common.{◌≡◌, Bool, true, false, if◌then◌else◌, [], ◌∷◌, refl, sym, inl, inr}
use Rattle.std.specs.Prelude.{Contains}
use Rattle.owl_list.proofs.AscendingLaws.{in_cases, in_none}
use Rattle.owl_tree.specs.declared.atom.Atom.{Atom}
use Rattle.owl_tree.specs.declared.row.Sort.TheVariants as sort
use Rattle.owl_tree.specs.declared.tag.Tag.{Tag}
use Rattle.owl_tree.specs.declared.tag.Tag.TheVariants as tag
use Rattle.owl_tree.specs.Rows.{admits, is_tag}
use Rattle.owl_tree.specs.Trees.{Tree, kids_of, leaf, no_kids, node}
use Rattle.man_text.specs.Blocks.{declared_name}

-- the declaration, without annotations
abbrev pub declaring : Tree → Tree
declaring t = node tag.Declaration (kids_of (node tag.Notes no_kids ∷ t ∷ []))

-- it is the declaration of the name
pub record IsDeclarationOf (name u : Tree) : Type 0 where
  pub own_tag : Tag
  pub atom : Atom
  pub name_is : name ≡ leaf own_tag atom
  pub entity : admits sort.Entity own_tag ≡ true
  pub is : u ≡ declaring (leaf own_tag atom)

leaf_declares : (entity anonymous : Bool) (t : Tag) (a : Atom) (u : Tree) → admits sort.Entity t ≡ entity → Contains (if entity then (if anonymous then [] else declaring (leaf t a) ∷ []) else []) u → IsDeclarationOf (leaf t a) u
leaf_declares true true t a u e m = absurd (in_none u m)
leaf_declares true false t a u e m = elim (in_cases (declaring (leaf t a)) [] u m) [
  | inl f ↦ record { own_tag = t; atom = a; name_is = refl; entity = e; is = sym f }
  | inr n ↦ absurd (in_none u n)
]
leaf_declares false b t a u e m = absurd (in_none u m)

-- what is declared of a tree is its declaration
pub name_declares : (s u : Tree) → Contains (declared_name s) u → IsDeclarationOf s u
name_declares (leaf t a) u m = leaf_declares (admits sort.Entity t) (is_tag tag.Anonymous t) t a u refl m
name_declares (node t ks) u m = absurd (in_none u m)
