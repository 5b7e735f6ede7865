-- The roots of trees.
use Rattle.std.specs.Prelude.{◌≡◌}
use Rattle.owl_tree.specs.Trees.{Tree, atom_in, tag_of}

-- the same tag and the same atom, or none
pub record HaveSameRoot (t u : Tree) : Type 0 where
  pub tag : tag_of t ≡ tag_of u
  pub atom : atom_in t ≡ atom_in u
