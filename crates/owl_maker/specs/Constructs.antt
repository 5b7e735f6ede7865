-- An item of an ontology while it is written: constructs that are open, as they are written, and the whole item.
use Rattle.std.specs.Prelude.{◌≤◌, ◌+◌, Bool, true, false, ◌&&◌, ◌||◌, List, [], ◌∷◌, length}
use Rattle.owl_arena.specs.Shared.{deepest}
use Rattle.owl_tree.specs.Frames.{Frame, tree_of, with_kid}
use Rattle.owl_tree.specs.Rows.{is_group}
use Rattle.owl_tree.specs.Shape.{AreShaped, IsShaped}
use Rattle.owl_tree.specs.Trees.{Tree, kids_in, kids_of, most_depth, tag_of}

-- the constructs that are open, the innermost first, or the item that is whole
pub data Work : Type 0 where
  Constructs : List Frame → Work
  Item : Tree → Work

-- the innermost construct is a kid of the one around it, or the item
abbrev pub shut_in : Frame → List Frame → Work
shut_in f [] = Item (tree_of f)
shut_in f (g ∷ fs) = Constructs (with_kid (tree_of f) g ∷ fs)

-- whether there are kids, and whether a group of keys among them has a member
abbrev pub has_any : List Tree → Bool
has_any [] = false
has_any (t ∷ ts) = true

abbrev pub is_key_group : Tree → Bool
is_key_group t = is_group (tag_of t) && has_any (kids_in t)

abbrev pub has_key : List Tree → Bool
has_key [] = false
has_key (t ∷ ts) = is_key_group t || has_key ts

-- The kids of each construct are trees of the Structural Specification, and none stands below the deepest level.
abbrev pub AreSound : List Frame → Type 0
AreSound [] = Unit {0}
AreSound (f ∷ fs) = (most_depth (kids_of f.kids) + length (f ∷ fs) ≤ deepest) × AreShaped (kids_of f.kids) × AreSound fs

abbrev pub IsSound : Work → Type 0
IsSound (Constructs fs) = AreSound fs
IsSound (Item t) = IsShaped t
