-- Numbers of trees in the order of the trees.
use Rattle.std.specs.Prelude.{ℕ, zero, suc, List, [], ◌∷◌}
use Rattle.std.specs.declared.cmp.Ordering.{Ordering}
use Rattle.std.specs.List.{slice_get}
use Rattle.std.specs.List.Sorted.{IsSorted}
use Rattle.std.specs.Option.{option_cmp}
use Rattle.std.specs.Ordering.{nat_cmp, on, then_cmp}
use Rattle.owl_list.specs.Ascending.{ascending}
use Rattle.owl_tree.specs.Order.{tree_cmp}
use Rattle.owl_tree.specs.Trees.{Tree}

-- numbers of no tree come first; then by tree; and numbers that tie by the numbers themselves
abbrev pub numbers_cmp : List Tree → ℕ → ℕ → Ordering
numbers_cmp ts = then_cmp (on (slice_get ts) (option_cmp tree_cmp)) nat_cmp

-- no number comes before the one in front of it
pub record AreInOrder (ts : List Tree) (ids : List ℕ) : Type 0 where
  pub sorted : IsSorted (numbers_cmp ts) ids

-- so many numbers as they stand, and the others each once, in ascending order
abbrev pub in_order_from : List Tree → ℕ → List ℕ → List ℕ
in_order_from ts zero ids = ascending (numbers_cmp ts) ids
in_order_from ts (suc n) [] = []
in_order_from ts (suc n) (id ∷ ids) = id ∷ in_order_from ts n ids
