-- What a program tests of shapes.
use Rattle.std.specs.Prelude.{◌≡◌, ◌⊎◌, List, Contains}
use Rattle.std.specs.List.{AllByRecursion}
use Rattle.owl_tree.specs.declared.tag.Tag.TheVariants as tag
use Rattle.owl_tree.specs.Equivalence.{IsEquivalent}
use Rattle.owl_tree.specs.Trees.{Tree, kids_in, tag_of}

-- each is equivalent to one of two
abbrev pub AreLikeEither : Tree → Tree → List Tree → Type 0
AreLikeEither one other ts = AllByRecursion (λ t. IsEquivalent t one ⊎ IsEquivalent t other) ts

-- a group of keys with a member
pub record IsKeyGroup (t : Tree) : Type 0 where
  pub is_group : (tag_of t ≡ tag.ObjectKeys) ⊎ (tag_of t ≡ tag.DataKeys)
  pub property : Tree
  pub member : Contains (kids_in t) property
