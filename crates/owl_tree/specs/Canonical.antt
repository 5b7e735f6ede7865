-- The canonical form of trees: the one of the equivalent trees whose sets ascend.
use Rattle.std.specs.Prelude.{ℕ, zero, suc, List, [], ◌∷◌, Option, None, Some}
use Rattle.owl_list.specs.Ascending.{ascending, IsAscending}
use Rattle.owl_tree.specs.Order.{tree_cmp}
use Rattle.owl_tree.specs.Rows.{row_of, set_start}
use Rattle.owl_tree.specs.Trees.{Tree, Kids, leaf, node, no_kids, kid, kids_of, list_of}

-- so many trees as they stand, and the others each once, in ascending order
abbrev pub arranged_from : ℕ → List Tree → List Tree
arranged_from zero ts = ascending tree_cmp ts
arranged_from (suc n) [] = []
arranged_from (suc n) (t ∷ ts) = t ∷ arranged_from n ts

-- by where their set part begins, if they have one
abbrev pub arranged : Option ℕ → List Tree → List Tree
arranged None ts = ts
arranged (Some n) ts = arranged_from n ts

abbrev mutual
  pub canonical : Tree → Tree
  canonical (leaf t a) = leaf t a
  canonical (node t ks) = node t (kids_of (arranged (set_start (row_of t)) (canonicals ks)))

  pub canonicals : Kids → List Tree
  canonicals no_kids = []
  canonicals (kid t ks) = canonical t ∷ canonicals ks

-- behind the first so many they ascend
abbrev pub AscendsFrom : ℕ → List Tree → Type 0
AscendsFrom zero ts = IsAscending tree_cmp ts
AscendsFrom (suc n) [] = Unit {0}
AscendsFrom (suc n) (t ∷ ts) = AscendsFrom n ts

abbrev pub SetAscends : Option ℕ → List Tree → Type 0
SetAscends None ts = Unit {0}
SetAscends (Some n) ts = AscendsFrom n ts

-- each set in the tree ascends
abbrev mutual
  pub SetsAscend : Tree → Type 0
  SetsAscend (leaf t a) = Unit {0}
  SetsAscend (node t ks) = SetAscends (set_start (row_of t)) (list_of ks) × EachSetsAscend ks

  pub EachSetsAscend : Kids → Type 0
  EachSetsAscend no_kids = Unit {0}
  EachSetsAscend (kid t ks) = SetsAscend t × EachSetsAscend ks
