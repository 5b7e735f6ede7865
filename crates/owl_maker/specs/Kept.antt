-- What a maker has in hand, as it is kept.
use Rattle.std.specs.Prelude.{◌≡◌, ◌<◌, ℕ, Bool, false, [], ◌∷◌, List, IfSome, Option, length, map, option_map, reverse}
use Rattle.std.specs.List.{AllByRecursion}
use Rattle.owl_arena.specs.Held.{AreHeld, node_over, tree_at, trees_at}
use Rattle.owl_doc.specs.Documents.{Document}
use Rattle.owl_maker.specs.declared.maker.Maker.TheInside as maker
use Rattle.owl_maker.specs.declared.parts.Open as parts
use Rattle.owl_maker.specs.declared.parts.Outline.{Outline}
use Rattle.owl_maker.specs.Makings.{Making}
use Rattle.owl_maker.specs.Steps.{forms_with, item_made, rest_of}
use Rattle.owl_tree.specs.declared.tag.Tag.TheVariants as tag
use Rattle.owl_tree.specs.Trees.{Tree, no_kids, node}

-- outlines and numbers of kids of the constructs, of which the last is the innermost, the innermost first
abbrev pub outlines_in : List parts.Open → List Outline
outlines_in stack = map (λ (o : parts.Open). o.outline) (reverse stack)

abbrev pub numbers_in : List parts.Open → List (List ℕ)
numbers_in stack = map (λ (o : parts.Open). o.kids.items) (reverse stack)

abbrev pub AreAllHeld : List Tree → List (List ℕ) → Type 0
AreAllHeld ts idss = AllByRecursion (AreHeld ts) idss

abbrev pub IsHeldIn : List Tree → Option ℕ → Type 0
IsHeldIn ts item = IfSome item (λ id. id < length ts)

-- the trees that are in hand: of the constructs, and of the item
pub record Seen : Type 0 where
  pub kids : List (List Tree)
  pub item : Option Tree

abbrev pub kids_at : Document → List parts.Open → List (List Tree)
kids_at d stack = map (trees_at d.arena.trees) (numbers_in stack)

abbrev pub seen : Document → List parts.Open → Option ℕ → Seen
seen d stack item = record { kids = kids_at d stack; item = option_map (tree_at d.arena.trees) item }

-- the innermost construct, with the canonical forms of its kids
abbrev pub top_of : List Tree → List parts.Open → Tree
top_of ts [] = node tag.Notes no_kids
top_of ts (o ∷ os) = node_over ts o.outline.tag o.kids.items

abbrev pub top_at : Document → List parts.Open → Tree
top_at d stack = top_of d.arena.trees (reverse stack)

-- a tree was made, and stands where it belongs
pub record IsShutLight (was_heavy : Bool) (form : Tree) (old new : Seen) : Type 0 where
  pub was_light : was_heavy ≡ false
  pub kids : new.kids ≡ forms_with form (rest_of old.kids)
  pub item : new.item ≡ item_made form old.item (rest_of old.kids)

abbrev pub making_of : maker.Inside → Making
making_of m = record {
  document = m.builder;
  outlines = outlines_in m.stack.items;
  kids = map (trees_at m.builder.arena.trees) (numbers_in m.stack.items);
  item = option_map (tree_at m.builder.arena.trees) m.item;
  is_heavy = m.is_heavy;
}

-- all numbers are of trees that are there
pub record IsKept (m : maker.Inside) : Type 0 where
  pub kids : AreAllHeld m.builder.arena.trees (numbers_in m.stack.items)
  pub item : IsHeldIn m.builder.arena.trees m.item
