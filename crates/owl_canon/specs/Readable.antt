-- Trees that are read of bytes.
use Rattle.std.specs.Prelude.{◌<◌, ◌≤◌, ℕ, List, length}
use Rattle.std.specs.List.{AllByRecursion}
use Rattle.owl_arena.specs.Held.{AreHeld}
use Rattle.owl_arena.specs.Shared.{deepest, heaviest}
use Rattle.owl_canon.specs.Limits.{IsCountable}
use Rattle.owl_tree.specs.Canonical.{SetsAscend}
use Rattle.owl_tree.specs.Shape.{IsShaped}
use Rattle.owl_tree.specs.Trees.{Tree, depth, weight}
use Rattle.rdf_normal.specs.Makings.{Extends}

-- a canonical tree of at most so many levels
pub record IsReadable (levels : ℕ) (t : Tree) : Type 0 where
  pub shaped : IsShaped t
  pub ascends : SetsAscend t
  pub countable : IsCountable t
  pub depth : depth t ≤ levels
  pub limit : levels ≤ deepest
  pub weight : weight t ≤ heaviest

abbrev pub AreReadable : ℕ → List Tree → Type 0
AreReadable levels ts = AllByRecursion (IsReadable levels) ts

-- the arena has only grown, and the number is of one of its trees
pub record IsHere (old new : List Tree) (id : ℕ) : Type 0 where
  pub extends : Extends old new
  pub held : id < length new

pub record AreHere (old new : List Tree) (ids : List ℕ) : Type 0 where
  pub extends : Extends old new
  pub held : AreHeld new ids
