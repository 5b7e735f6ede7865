-- Marks at the places of an arena.
use Rattle.std.specs.Prelude.{◌≡◌, ◌≤◌, ◌<◌, ℕ, Bool, false, List, IsTrue, Contains, length, slice_index_or}
use Rattle.std.specs.List.{AllByRecursion}
use Rattle.owl_doc.specs.Counts.{subtrees_of}
use Rattle.owl_arena.specs.Held.{tree_at}
use Rattle.owl_tree.specs.Trees.{Tree, kids_in, kids_of}

-- beyond the last place there is no mark
abbrev pub IsMarked : List Bool → ℕ → Type 0
IsMarked marks place = IsTrue (slice_index_or marks place false)

-- a place with a mark, where the tree stands
pub record HasMark (ts : List Tree) (marks : List Bool) (t : Tree) : Type 0 where
  pub place : ℕ
  pub within : place < length ts
  pub mark : IsMarked marks place
  pub tree : tree_at ts place ≡ t

-- each mark stands at a tree that is a part of one of these
abbrev pub MarkParts : List Tree → List Tree → List Bool → Type 0
MarkParts roots ts marks = (place : ℕ) → place < length ts → IsMarked marks place → Contains (subtrees_of (kids_of roots)) (tree_at ts place)

-- where a tree from this place on has a mark, so have its kids
abbrev pub IsClosedFrom : ℕ → List Tree → List Bool → Type 0
IsClosedFrom start ts marks = (place : ℕ) → start ≤ place → place < length ts → IsMarked marks place → AllByRecursion (HasMark ts marks) (kids_in (tree_at ts place))

-- marks are added, and they stand at parts of what had a mark
pub record AddsParts (ts : List Tree) (old new : List Bool) : Type 0 where
  pub long : length new ≡ length old
  pub kept : (place : ℕ) → IsMarked old place → IsMarked new place
  pub parts : (roots : List Tree) → MarkParts roots ts old → MarkParts roots ts new
