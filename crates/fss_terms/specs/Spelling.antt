-- How trees are written in Functional-Style Syntax (Structural Specification, sections 5 to 10): by the row of their tag.
use Rattle.std.specs.Prelude.{◌≡◌, ◌≤◌, ◌+◌, ℕ, if◌then◌else◌, List, ◌∷◌, length}
use Rattle.owl_tree.specs.declared.tag.Tag.{Tag}
use Rattle.owl_tree.specs.declared.tag.Tag.TheVariants as tag
use Rattle.owl_tree.specs.declared.row.Rest.TheVariants.{Nothing, Optional, AtLeast, SomeThen, Set}
use Rattle.owl_tree.specs.Rows.{Row, Leaf, Node, is_bare, is_group, is_tag, row_of}
use Rattle.owl_tree.specs.Shape.{IsShaped}
use Rattle.owl_tree.specs.Tags.{keyword_of}
use Rattle.owl_tree.specs.Trees.{Tree, Kids, leaf, node, no_kids, kid, list_of}
use Rattle.fss_terms.specs.declared.term.Term.{Term}
use Rattle.fss_terms.specs.declared.term.Term.TheVariants.{Keyword, Opening, Closing, Atom}

-- what stands before the parts of a node
abbrev pub opened : Tag → List Term → List Term
opened t more = if is_bare t then more else (if is_group t then Opening ∷ more else Keyword (keyword_of t) ∷ Opening ∷ more)

-- what stands behind them
abbrev pub closed : Tag → List Term → List Term
closed t more = if is_bare t then more else Closing ∷ more

-- A leaf is what it holds; in a Declaration it stands in the brackets of its keyword.
abbrev pub leaf_spelling : Tag → Tag → Term → List Term → List Term
leaf_spelling within t held more =
    if is_tag tag.Declaration within then Keyword (keyword_of t) ∷ Opening ∷ held ∷ Closing ∷ more else held ∷ more

-- The terms of a tree that stands in a node with this tag, and then more. Its kids stand in their order.
abbrev mutual
  pub spelling : Tag → Tree → List Term → List Term
  spelling within (leaf t a) more = leaf_spelling within t (Atom a) more
  spelling within (node t ks) more = opened t (spellings t ks (closed t more))

  pub spellings : Tag → Kids → List Term → List Term
  spellings within no_kids more = more
  spellings within (kid k ks) more = spelling within k (spellings within ks more)

-- so many are written behind the front where the rest asks for so many at least
abbrev pub MeetsMinimum : Row → ℕ → Type 0
MeetsMinimum (Leaf sort) count = Unit {0}
MeetsMinimum (Node front Nothing) count = Unit {0}
MeetsMinimum (Node front (Optional sort)) count = Unit {0}
MeetsMinimum (Node front (AtLeast sort least)) count = Unit {0}
MeetsMinimum (Node front (SomeThen sort last)) count = Unit {0}
MeetsMinimum (Node front (Set sort least)) count = length front + least ≤ count

-- A set has as many written members as its row asks for, repeats counted, and InverseObjectProperties exactly two behind
-- its annotations (sections 8, 9.2.4 and others).
abbrev mutual
  pub HasMembers : Tree → Type 0
  HasMembers (leaf t a) = Unit {0}
  HasMembers (node t ks) =
      MeetsMinimum (row_of t) (length (list_of ks)) × (t ≡ tag.InverseObjectProperties → length (list_of ks) ≡ 3) × HaveMembers ks

  pub HaveMembers : Kids → Type 0
  HaveMembers no_kids = Unit {0}
  HaveMembers (kid k ks) = HasMembers k × HaveMembers ks

-- a tree as it may be written: the members of its sets in any order, with repeats
pub record IsWritten (t : Tree) : Type 0 where
  pub shaped : IsShaped t
  pub members : HasMembers t
