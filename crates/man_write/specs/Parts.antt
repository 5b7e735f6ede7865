-- How a text grows part by part.
use Rattle.std.specs.Prelude.{ℕ, zero, suc, Bool, false, if◌then◌else◌, List, [], ◌∷◌, ◌++◌, map}
use Rattle.std.specs.Option.{option_to_list}
use Rattle.std.specs.Str.{chars}
use Rattle.man_text.specs.Text.{text}
use Rattle.man_text.specs.Undecided.{form_of, in_order, is_bracketed, operand, turned, undecided}
use Rattle.man_text.specs.Words.{Words, words_of}
use Rattle.owl_arena.specs.Held.{tree_at}
use Rattle.owl_atom.specs.declared.prefixes.Prefix.{Prefix}
use Rattle.owl_tree.specs.Trees.{Tree, kids_in, leaf, node, tag_of}
use Rattle.written_trees.specs.Written.{written_form}
use Rattle.man_write.specs.declared.listed.Listed.{Listed}
use Rattle.man_write.specs.declared.words.Around.{Around}

-- the words that the program has
abbrev pub words_seen : Around → Words
words_seen w = record { front = chars w.front.now; first = chars w.first.now; others = chars w.others.now; last = chars w.last.now }

-- what stands in front of the part at this place
abbrev pub gap : Words → ℕ → List ℕ
gap w zero = []
gap w (suc zero) = w.first
gap w (suc (suc n)) = w.others

-- the parts from this place on
abbrev pub joined_from : Words → ℕ → List (List ℕ) → List ℕ
joined_from w n [] = []
joined_from w n (t ∷ ts) = (gap w n ++ t) ++ joined_from w (suc n) ts

-- what is written of these parts; of none nothing is
abbrev pub form_text : Words → List (List ℕ) → List ℕ
form_text w [] = []
form_text w (t ∷ ts) = w.front ++ (joined_from w 0 (t ∷ ts) ++ w.last)

-- the numbers in a list that the program has
abbrev pub ids_in : Listed → List ℕ
ids_in l = l.kids.now ++ option_to_list l.twice

abbrev pub turned_if : {X : Type 0} → Bool → List X → List X
turned_if b xs = if b then turned xs else xs

-- the text of a tree
abbrev pub said : List Prefix → Tree → List ℕ
said prefixes t = text prefixes (undecided t) []

-- the text of a tree that is an operand
abbrev pub operand_text : List Prefix → Tree → List ℕ
operand_text prefixes t = text prefixes (operand (undecided t)) []

-- the trees with these numbers, as they are written
abbrev pub forms_at : List Tree → List ℕ → List Tree
forms_at trees ids = map (λ id. written_form (tree_at trees id)) ids

-- the kids of the tree with this number, as it is written
abbrev pub kids_at : List Tree → ℕ → List Tree
kids_at trees id = kids_in (written_form (tree_at trees id))

-- the text of the tree with this number, as it is written
abbrev pub said_at : List Prefix → List Tree → ℕ → List ℕ
said_at prefixes trees id = said prefixes (written_form (tree_at trees id))

-- and where it is an operand
abbrev pub operand_at : List Prefix → List Tree → ℕ → List ℕ
operand_at prefixes trees id = operand_text prefixes (written_form (tree_at trees id))

-- the texts of the operands of the tree with this number, and the words around them
abbrev pub operands_at : List Prefix → List Tree → ℕ → List (List ℕ)
operands_at prefixes trees id =
    map (operand_text prefixes) (in_order (form_of (tag_of (tree_at trees id))) (kids_at trees id))

abbrev pub words_at : List Tree → ℕ → Words
words_at trees id = words_of (form_of (tag_of (tree_at trees id)))

-- the text of the node with this number
abbrev pub node_at : List Prefix → List Tree → ℕ → List ℕ
node_at prefixes trees id = form_text (words_at trees id) (operands_at prefixes trees id)

-- the same where it has operands
abbrev pub around_at : List Prefix → List Tree → ℕ → List ℕ
around_at prefixes trees id =
    (words_at trees id).front ++ (joined_from (words_at trees id) 0 (operands_at prefixes trees id) ++ (words_at trees id).last)

-- the tree stands in brackets where it is an operand
abbrev pub is_operand_bracketed : Tree → Bool
is_operand_bracketed (leaf t a) = false
is_operand_bracketed (node t ks) = is_bracketed (form_of t)
