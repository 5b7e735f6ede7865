-- Trees that an arena has, and the marks of the properties among them.
use Rattle.std.specs.Prelude.{ℕ, Bool, false, List, Option, None, Some, Contains, map, slice_index_or}
use Rattle.std.specs.List.{AllByRecursion}
use Rattle.graph_walks.specs.Numbers.{numbered}
use Rattle.dl_rules.specs.Properties.{Property}
use Rattle.owl_tree.specs.Trees.{Tree, kids_in}
use Rattle.property_hierarchy.specs.Numbers.{node_of, number_of}
use Rattle.property_hierarchy.specs.declared.numbers.PropertyNumber.{PropertyNumber}

-- the kids of the trees are among them
abbrev pub HoldsKids : List Tree → Type 0
HoldsKids ts = (t : Tree) → Contains ts t → AllByRecursion (Contains ts) (kids_in t)

-- the property as a node of a graph
abbrev pub property_node : List Tree → Property → ℕ
property_node ts p = node_of (number_of ts p)

-- numbers of properties as nodes
abbrev pub nodes_of : List PropertyNumber → List ℕ
nodes_of ns = map node_of ns

-- pairs of these as pairs of nodes
abbrev pub node_pairs : List (PropertyNumber × PropertyNumber) → List (ℕ × ℕ)
node_pairs pairs = numbered node_of pairs

-- the mark of the property, by its node
abbrev pub mark_of : List Tree → List Bool → Option Property → Bool
mark_of ts marks None = false
mark_of ts marks (Some p) = slice_index_or marks (property_node ts p) false
