-- What the steps of a maker do to its parts.
use Rattle.std.specs.Prelude.{ℕ, Bool, true, false, not, ◌&&◌, ◌||◌, List, [], ◌∷◌, ◌++◌, Option, None, Some}
use Rattle.owl_tree.specs.declared.tag.Tag.{Tag}
use Rattle.owl_tree.specs.declared.tag.Tag.TheVariants as tag
use Rattle.owl_tree.specs.Rows.{is_group, is_tag}
use Rattle.owl_tree.specs.Trees.{Tree}
use Rattle.owl_maker.specs.declared.parts.Outline.{Outline}

-- with one more kid, which is a group of keys with a member or not
abbrev pub outline_with : Bool → Outline → Outline
outline_with is_key o = record { tag = o.tag; has_kids = true; has_key = o.has_key || is_key }

-- in the innermost
abbrev pub outlines_with : Bool → List Outline → List Outline
outlines_with is_key [] = []
outlines_with is_key (o ∷ os) = outline_with is_key o ∷ os

-- where a tree was made, its number comes behind the others
abbrev pub numbers_with : Option ℕ → List ℕ → List ℕ
numbers_with None ids = ids
numbers_with (Some id) ids = ids ++ id ∷ []

abbrev pub kids_with : Option ℕ → List (List ℕ) → List (List ℕ)
kids_with made [] = []
kids_with made (ids ∷ idss) = numbers_with made ids ∷ idss

-- outside all constructs it is the item
abbrev pub item_with : Option ℕ → Option ℕ → List (List ℕ) → Option ℕ
item_with made item [] = made
item_with made item (ids ∷ idss) = item

-- a construct that was just opened
abbrev pub empty_outline : Tag → Outline
empty_outline t = record { tag = t; has_kids = false; has_key = false }

-- the innermost is a HasKey without a property
abbrev pub is_keyless_in : List Outline → Bool
is_keyless_in [] = false
is_keyless_in (o ∷ os) = is_tag tag.HasKey o.tag && not o.has_key

-- the innermost is a kid of the one around it
abbrev pub outlines_shut : List Outline → List Outline
outlines_shut [] = []
outlines_shut (o ∷ os) = outlines_with (is_group o.tag && o.has_kids) os

-- a tree behind those of the innermost
abbrev pub forms_with : Tree → List (List Tree) → List (List Tree)
forms_with u [] = []
forms_with u (ks ∷ kss) = (ks ++ u ∷ []) ∷ kss

-- and outside all constructs as the item
abbrev pub item_made : Tree → Option Tree → List (List Tree) → Option Tree
item_made u item [] = Some u
item_made u item (ks ∷ kss) = item

abbrev pub rest_of : {X : Type 0} → List X → List X
rest_of [] = []
rest_of (x ∷ xs) = xs
