-- The trees that the Structural Specification has (sections 5 to 10).
use Rattle.std.specs.Prelude.{◌≡◌, ◌⊎◌, IsTrue, List, drop, map, Contains}
use Rattle.std.specs.List.{AllByRecursion}
use Rattle.owl_tree.specs.declared.tag.Tag.{Tag}
use Rattle.owl_tree.specs.declared.tag.Tag.TheVariants as tag
use Rattle.owl_tree.specs.Atoms.{IsAtom}
use Rattle.owl_tree.specs.Equivalence.{IsEquivalent}
use Rattle.owl_tree.specs.Rows.{fits, row_of, takes}
use Rattle.owl_tree.specs.Trees.{Tree, Kids, leaf, node, no_kids, kid, kids_in, list_of, tag_of}

-- counted without repeats they are at most two: each is equivalent to one of two trees
pub record AreAtMostTwo (ts : List Tree) : Type 0 where
  pub one : Tree
  pub other : Tree
  pub each : AllByRecursion (λ t. IsEquivalent t one ⊎ IsEquivalent t other) ts

-- a group of keys among the kids has a member
pub record HasKeyProperty (ts : List Tree) : Type 0 where
  pub group : Tree
  pub inside : Contains ts group
  pub is_group : (tag_of group ≡ tag.ObjectKeys) ⊎ (tag_of group ≡ tag.DataKeys)
  pub property : Tree
  pub member : Contains (kids_in group) property

-- the kids have the sorts of the tag's row, and the numbers that no row says
pub record FitsRow (t : Tag) (ts : List Tree) : Type 0 where
  pub row : IsTrue (fits (row_of t) (map tag_of ts))
  -- two object property expressions that are inverse to each other (section 9.2.4), behind the annotations
  pub inverses : t ≡ tag.InverseObjectProperties → AreAtMostTwo (drop 1 ts)
  -- one or more properties that are the key (section 9.5)
  pub keys : t ≡ tag.HasKey → HasKeyProperty ts

-- A leaf has an atom of its row's sort, and a node fits its row, with kids that are shaped.
abbrev mutual
  pub IsShaped : Tree → Type 0
  IsShaped (leaf t a) = IsTrue (takes (row_of t) a) × IsAtom a
  IsShaped (node t ks) = FitsRow t (list_of ks) × AreShaped ks

  pub AreShaped : Kids → Type 0
  AreShaped no_kids = Unit {0}
  AreShaped (kid t ks) = IsShaped t × AreShaped ks
