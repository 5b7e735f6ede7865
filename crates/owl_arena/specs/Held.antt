-- What an arena holds: trees, each with a number.
use Rattle.std.specs.Prelude.{◌≡◌, ◌<◌, ℕ, List, map, length, slice_index_or, refl}
use Rattle.std.specs.Coded.{Coded, code_by, coded×, coded_list, coded_ℕ}
use Rattle.std.specs.List.{AllByRecursion}
use Rattle.owl_tree.specs.declared.tag.Tag.{Tag}
use Rattle.owl_tree.specs.declared.tag.Tag.TheVariants as tag
use Rattle.owl_tree.specs.declared.row.AtomSort.{AtomSort}
use Rattle.owl_tree.specs.OrderLaws.{coded_tree}
use Rattle.owl_tree.specs.Rows.{Leaf, row_of}
use Rattle.owl_tree.specs.Trees.{Tree, kids_of, no_kids, node}

-- the trees, of which the number is the place, and for how many more there is memory
pub record Held : Type 0 where
  pub trees : List Tree
  pub spare : ℕ

-- it is stored as the pair of its fields
abbrev pub held_code : Coded Held
held_code = code_by (List Tree × ℕ) (coded× (coded_list coded_tree) coded_ℕ) (λ h. (h.trees, h.spare)) (λ p. record { trees = p.0; spare = p.1 }) (λ _. refl)

-- the tree with this number; beyond the last some tree, of which nothing is said
abbrev pub tree_at : List Tree → ℕ → Tree
tree_at ts id = slice_index_or ts id (node tag.Notes no_kids)

abbrev pub trees_at : List Tree → List ℕ → List Tree
trees_at ts ids = map (tree_at ts) ids

-- the numbers are of trees that are there
abbrev pub AreHeld : List Tree → List ℕ → Type 0
AreHeld ts ids = AllByRecursion (λ id. id < length ts) ids

-- the node that has the trees with these numbers as its kids
abbrev pub node_over : List Tree → Tag → List ℕ → Tree
node_over ts t ids = node t (kids_of (trees_at ts ids))

-- trees with the tag are leaves
abbrev pub IsLeafTag : Tag → Type 0
IsLeafTag t = (sort : AtomSort) × (row_of t ≡ Leaf sort)
