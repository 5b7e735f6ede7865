-- Trees: axioms, expressions, annotations and their parts (Structural Specification, sections 5 to 10).
use Rattle.std.specs.Prelude.{ℕ, ◌+◌, List, [], ◌∷◌, max, Option, None, Some}
use Rattle.owl_tree.specs.declared.atom.Atom.{Atom}
use Rattle.owl_tree.specs.declared.tag.Tag.{Tag}

mutual
  -- A leaf has a tag and an atom. A node has a tag and kids, which are trees.
  pub data Tree : Type 0 where
    leaf : Tag → Atom → Tree
    node : Tag → Kids → Tree

  pub data Kids : Type 0 where
    no_kids : Kids
    kid : Tree → Kids → Kids

abbrev pub list_of : Kids → List Tree
list_of no_kids = []
list_of (kid t ks) = t ∷ list_of ks

abbrev pub kids_of : List Tree → Kids
kids_of [] = no_kids
kids_of (t ∷ ts) = kid t (kids_of ts)

abbrev pub tag_of : Tree → Tag
tag_of (leaf t a) = t
tag_of (node t ks) = t

-- the atom of a leaf
abbrev pub atom_in : Tree → Option Atom
atom_in (leaf t a) = Some a
atom_in (node t ks) = None

-- the kids of a tree
abbrev pub kids_in : Tree → List Tree
kids_in (leaf t a) = []
kids_in (node t ks) = list_of ks

-- 1, and for a node with kids one more than its deepest kid
abbrev mutual
  pub depth : Tree → ℕ
  depth (leaf t a) = 1
  depth (node t ks) = most_depth ks + 1

  pub most_depth : Kids → ℕ
  most_depth no_kids = 0
  most_depth (kid t ks) = max (depth t) (most_depth ks)

-- the number of its nodes and leaves
abbrev mutual
  pub weight : Tree → ℕ
  weight (leaf t a) = 1
  weight (node t ks) = sum_weight ks + 1

  pub sum_weight : Kids → ℕ
  sum_weight no_kids = 0
  sum_weight (kid t ks) = weight t + sum_weight ks
