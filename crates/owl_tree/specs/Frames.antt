-- Constructs while they are written.
use Rattle.std.specs.Prelude.{◌≡◌, IsTrue, List, [], ◌∷◌, ◌++◌, drop, map}
use Rattle.owl_tree.specs.declared.tag.Tag.{Tag}
use Rattle.owl_tree.specs.declared.tag.Tag.TheVariants as tag
use Rattle.owl_tree.specs.Rows.{fits, row_of}
use Rattle.owl_tree.specs.Shape.{AreAtMostTwo, HasKeyProperty}
use Rattle.owl_tree.specs.Trees.{Tree, kids_of, node, tag_of}

-- a construct that is open, and its kids so far
pub record Frame : Type 0 where
  pub tag : Tag
  pub kids : List Tree

abbrev pub tree_of : Frame → Tree
tree_of f = node f.tag (kids_of f.kids)

-- one more construct is open, inside the others; the innermost stands first
abbrev pub opened : Tag → List Frame → List Frame
opened t fs = record { tag = t; kids = [] } ∷ fs

abbrev pub with_kid : Tree → Frame → Frame
with_kid t f = record { tag = f.tag; kids = f.kids ++ t ∷ [] }

-- but for its keys the construct fits the row of its tag
pub record FitsButKeys (f : Frame) : Type 0 where
  pub row : IsTrue (fits (row_of f.tag) (map tag_of f.kids))
  pub inverses : f.tag ≡ tag.InverseObjectProperties → AreAtMostTwo (drop 1 f.kids)

-- a HasKey without a property (Structural Specification, section 9.5)
pub record IsKeyless (f : Frame) : Type 0 where
  pub tag : f.tag ≡ tag.HasKey
  pub none : HasKeyProperty f.kids → ⊥
