-- What is tested of the kids of a node by their numbers.
use Rattle.std.specs.Prelude.{ℕ, Bool, true, false, ◌||◌, nat_eq, List, [], ◌∷◌, map}
use Rattle.std.specs.List.{list_all}
use Rattle.owl_tree.specs.declared.tag.Tag.{Tag}
use Rattle.owl_tree.specs.Trees.{Tree, tag_of}
use Rattle.owl_arena.specs.Held.{trees_at}

-- the tags of the trees with these numbers
abbrev pub tags_at : List Tree → List ℕ → List Tag
tags_at ts ids = map tag_of (trees_at ts ids)

-- each number is one of two
abbrev pub are_either : ℕ → ℕ → List ℕ → Bool
are_either one other ids = list_all (λ id. nat_eq id one || nat_eq id other) ids

-- a number that is the one tells nothing of the other
abbrev pub other_from : Bool → Bool → Bool → Bool
other_from true with_same with_other = with_same
other_from false with_same with_other = with_other

-- the numbers that are not this one are one other
abbrev pub are_one_other : ℕ → List ℕ → Bool
are_one_other one [] = true
are_one_other one (id ∷ ids) = other_from (nat_eq id one) (are_one_other one ids) (are_either one id ids)

-- counted without repeats they are at most two
abbrev pub are_at_most_two : List ℕ → Bool
are_at_most_two [] = true
are_at_most_two (one ∷ ids) = are_one_other one ids
