-- Axioms in the order of what they are without their annotations.
use Rattle.std.specs.Prelude.{◌≡◌, ◌≢◌, ◌<◌, ◌≤◌, ℕ, false, List, [], ◌∷◌, length, slice_index}
use Rattle.std.specs.declared.cmp.Ordering.{Ordering}
use Rattle.std.specs.List.{AllByRecursion, slice_get}
use Rattle.std.specs.List.Sorted.{IsPermutation, IsSorted, IsStable}
use Rattle.std.specs.Option.{option_cmp}
use Rattle.std.specs.Ordering.{is_lt, on}
use Rattle.owl_arena.specs.Held.{tree_at}
use Rattle.owl_tree.specs.Order.{tree_cmp}
use Rattle.owl_tree.specs.Trees.{Tree}
use Rattle.rdf_mapping.specs.Graphs.{bare}

abbrev pub bare_cmp : Tree → Tree → Ordering
bare_cmp = on bare tree_cmp

-- the same of axioms by their numbers, where those of no tree come first
abbrev pub numbers_cmp : List Tree → ℕ → ℕ → Ordering
numbers_cmp trees = on (slice_get trees) (option_cmp bare_cmp)

-- the same numbers in this order, where those that tie stand as they stood
pub record AreSorted (trees : List Tree) (old new : List ℕ) : Type 0 where
  pub moved : IsPermutation old new
  pub sorted : IsSorted (numbers_cmp trees) new
  pub stable : IsStable (numbers_cmp trees) old new

-- no axiom comes before one in front of it
abbrev pub AreOrdered : List Tree → Type 0
AreOrdered [] = Unit {0}
AreOrdered (a ∷ axioms) = AllByRecursion (λ b. is_lt (bare_cmp b a) ≡ false) axioms × AreOrdered axioms

-- so many axioms differ from the first in their annotations alone, and the next one in more
pub record IsGroup (trees : List Tree) (ids : List ℕ) (count : ℕ) : Type 0 where
  pub some : 0 < count
  pub within : count ≤ length ids
  pub same : (k : ℕ) → k < count → bare (tree_at trees (slice_index ids 0)) ≡ bare (tree_at trees (slice_index ids k))
  pub apart : count < length ids → bare (tree_at trees (slice_index ids 0)) ≢ bare (tree_at trees (slice_index ids count))
