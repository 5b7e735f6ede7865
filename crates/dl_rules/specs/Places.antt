-- The places of trees.
use Rattle.std.specs.Prelude.{ℕ, List}
use Rattle.std.specs.Ordering.{is_eq}
use Rattle.std.specs.List.{position_or_len}
use Rattle.owl_tree.specs.Order.{tree_cmp}
use Rattle.owl_tree.specs.Trees.{Tree}

-- where the tree stands first; the number of the trees, where it is none of them
abbrev pub place_of : List Tree → Tree → ℕ
place_of ts t = position_or_len (λ u. is_eq (tree_cmp u t)) ts
