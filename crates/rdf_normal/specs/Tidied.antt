-- What is said fully, and what is tidied of it.
use Rattle.std.proofs.Common.{◌≡◌, true, false, List, Contains, None, ◌⊎◌}
use Rattle.owl_tree.specs.declared.tag.Tag.{Tag}
use Rattle.owl_tree.specs.Trees.{Tree, Kids, leaf, node, no_kids, kid}
use Rattle.rdf_normal.specs.NormalForms.{is_paired, tidied, turned, turned_from, bare, is_annotated}
use Rattle.owl_tree.specs.declared.atom.Atom.{Atom}
use Rattle.rdf_normal.specs.OneTriple.{is_one_triple}

-- the first two steps have nothing to do
pub record IsPlain (t : Tree) : Type 0 where
  pub paired : is_paired t ≡ false
  pub turned : turned_from t ≡ None

-- one triple says it, and one of the others says it with annotations
pub record IsSaidFully (ts : List Tree) (t : Tree) : Type 0 where
  pub one_triple : is_one_triple t ≡ true
  pub other : Tree
  pub inside : Contains ts other
  pub annotated : is_annotated other ≡ true
  pub same : bare other ≡ t

-- it is a tidied one of these
pub record IsTidiedOf (ts : List Tree) (u : Tree) : Type 0 where
  pub tree : Tree
  pub inside : Contains ts tree
  pub same : tidied tree ≡ u

-- a leaf of the tree
abbrev mutual
  pub HasLeaf : Tag → Atom → Tree → Type 0
  HasLeaf t a (leaf u b) = (u ≡ t) × (b ≡ a)
  HasLeaf t a (node u ks) = KidsHaveLeaf t a ks

  pub KidsHaveLeaf : Tag → Atom → Kids → Type 0
  KidsHaveLeaf t a no_kids = ⊥
  KidsHaveLeaf t a (kid u ks) = HasLeaf t a u ⊎ KidsHaveLeaf t a ks

-- a leaf of one of the trees
pub record HasLeafIn (ts : List Tree) (t : Tag) (a : Atom) : Type 0 where
  pub tree : Tree
  pub inside : Contains ts tree
  pub leaf : HasLeaf t a tree
