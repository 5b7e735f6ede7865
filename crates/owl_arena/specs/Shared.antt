-- Trees of which equivalent ones are one.
use Rattle.std.specs.Prelude.{◌≡◌, ◌↔◌, ◌<◌, ◌≤◌, ◌^◌, ℕ, List, length}
use Rattle.std.specs.List.{AllByRecursion}
use Rattle.owl_tree.specs.Canonical.{canonical}
use Rattle.owl_tree.specs.Equivalence.{IsEquivalent}
use Rattle.owl_tree.specs.Shape.{IsShaped}
use Rattle.owl_tree.specs.Trees.{Tree, depth, weight}
use Rattle.owl_arena.specs.Held.{tree_at}

abbrev pub deepest : ℕ
deepest = 128

abbrev pub heaviest : ℕ
heaviest = 2 ^ 24

-- so many trees fit into an arena
abbrev pub most_trees : ℕ
most_trees = 2 ^ 28

-- a tree that an arena may hold: one of the Structural Specification, in canonical form, within the limits
pub record IsEntry (t : Tree) : Type 0 where
  pub shaped : IsShaped t
  pub canonical : canonical t ≡ t
  pub depth : depth t ≤ deepest
  pub weight : weight t ≤ heaviest

-- a tree has one number
abbrev pub HaveOneNumber : List Tree → Type 0
HaveOneNumber ts = (a b : ℕ) → a < length ts → b < length ts → tree_at ts a ≡ tree_at ts b → a ≡ b

pub record AreShared (ts : List Tree) : Type 0 where
  pub entries : AllByRecursion IsEntry ts
  pub one_number : HaveOneNumber ts
  pub few : length ts ≤ most_trees

-- numbers are equal exactly where their trees are structurally equivalent
abbrev pub TellEquivalence : List Tree → Type 0
TellEquivalence ts = (a b : ℕ) → a < length ts → b < length ts → (a ≡ b) ↔ IsEquivalent (tree_at ts a) (tree_at ts b)
