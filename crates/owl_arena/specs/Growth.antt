-- What comes of a tree that an arena is to hold.
use Rattle.std.specs.Prelude.{◌≡◌, ◌⊎◌, ◌<◌, ◌≤◌, List, [], ◌∷◌, ◌++◌, length, Contains}
use Rattle.owl_arena.specs.Shared.{deepest, heaviest, most_trees}
use Rattle.owl_tree.specs.Canonical.{canonical}
use Rattle.owl_tree.specs.Shape.{IsShaped}
use Rattle.owl_tree.specs.Trees.{Tree, depth, weight}

-- the tree is not there
abbrev pub Lacks : List Tree → Tree → Type 0
Lacks ts t = Contains ts t → ⊥

-- nothing changes where the tree is there; else it comes behind the others, which keep their numbers
abbrev pub Adds : List Tree → List Tree → Tree → Type 0
Adds old new t = (Contains old t × (new ≡ old)) ⊎ (Lacks old t × (new ≡ old ++ t ∷ []))

-- the Structural Specification has the tree, and it is too deep
pub record IsTooDeep (t : Tree) : Type 0 where
  pub shaped : IsShaped t
  pub deep : deepest < depth t

-- it is not too deep, and its canonical form is too heavy
pub record IsTooHeavy (t : Tree) : Type 0 where
  pub shaped : IsShaped t
  pub not_deep : depth t ≤ deepest
  pub heavy : heaviest < weight (canonical t)

-- it is neither too deep nor too heavy
pub record IsWithin (t : Tree) : Type 0 where
  pub shaped : IsShaped t
  pub not_deep : depth t ≤ deepest
  pub not_heavy : weight (canonical t) ≤ heaviest

-- it is within the limits, its canonical form is not there, and no more trees fit
pub record IsOneTooMany (ts : List Tree) (t : Tree) : Type 0 where
  pub within : IsWithin t
  pub absent : Lacks ts (canonical t)
  pub full : length ts ≡ most_trees
