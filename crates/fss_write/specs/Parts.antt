-- How a text grows part by part.
use Rattle.std.specs.Prelude.{ℕ, zero, suc, Bool, true, false, nat_le, if◌then◌else◌, List, [], ◌∷◌, ◌++◌, length, codes, flat_map, Option, None, Some}
use Rattle.owl_atom.specs.declared.prefixes.Prefix.{Prefix}
use Rattle.owl_arena.specs.Held.{tree_at}
use Rattle.owl_tree.specs.declared.tag.Tag.{Tag}
use Rattle.owl_tree.specs.declared.row.Rest.TheVariants.{Nothing, Optional, AtLeast, SomeThen, Set}
use Rattle.owl_tree.specs.Rows.{Row, Leaf, Node}
use Rattle.owl_tree.specs.Trees.{Tree, kids_in, tag_of}
use Rattle.fss_write.specs.Text.{bracketed, joined, node_name, node_parts, parts}
use Rattle.written_trees.specs.Written.{written_form}

abbrev pub spaced : List ℕ → List ℕ
spaced part = codes " " ++ part

-- the text of these parts, where some part stands before them, or none does
abbrev pub behind : Bool → List (List ℕ) → List ℕ
behind true texts = flat_map spaced texts
behind false texts = joined texts

-- whether some part stands there with these
abbrev pub has_parts : Bool → List (List ℕ) → Bool
has_parts before [] = before
has_parts before (part ∷ others) = true

-- a space behind some part
abbrev pub spacing : Bool → List ℕ
spacing true = codes " "
spacing false = []

-- the parts of the tree with this number, as it is written
abbrev pub parts_at : List Prefix → List Tree → Tag → ℕ → List (List ℕ)
parts_at prefixes trees within id = parts prefixes within (written_form (tree_at trees id))

-- the parts of the kids of a tree, as they are written
abbrev pub kids_parts : List Prefix → Tree → List (List ℕ)
kids_parts prefixes t = flat_map (parts prefixes (tag_of t)) (kids_in (written_form t))

-- the parts of the kids of the tree with this number
abbrev pub kids_parts_at : List Prefix → List Tree → ℕ → List (List ℕ)
kids_parts_at prefixes trees id = kids_parts prefixes (tree_at trees id)

-- the parts of the node with this number
abbrev pub node_parts_at : List Prefix → List Tree → ℕ → List (List ℕ)
node_parts_at prefixes trees id = node_parts (tag_of (tree_at trees id)) (kids_parts_at prefixes trees id)

-- the node with this number, with its brackets
abbrev pub node_text_at : List Prefix → List Tree → ℕ → List ℕ
node_text_at prefixes trees id = bracketed (node_name (tag_of (tree_at trees id))) (joined (kids_parts_at prefixes trees id))
