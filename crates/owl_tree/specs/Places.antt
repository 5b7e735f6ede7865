-- What may stand at each place below a tag: its row, place by place.
use Rattle.std.specs.Prelude.{ℕ, zero, suc, Bool, true, false, ◌&&◌, ◌-◌, nat_eq, nat_le, min, List, [], ◌∷◌, length, slice_get, Option, None, Some}
use Rattle.owl_tree.specs.declared.tag.Tag.{Tag}
use Rattle.owl_tree.specs.declared.row.Sort.{Sort}
use Rattle.owl_tree.specs.declared.row.Rest.{Rest}
use Rattle.owl_tree.specs.declared.row.Rest.TheVariants.{Nothing, Optional, AtLeast, SomeThen, Set}
use Rattle.owl_tree.specs.Rows.{Row, Leaf, Node, admits}

-- so many kids may stand behind the front
abbrev pub counts_rest : Rest → ℕ → Bool
counts_rest Nothing n = nat_eq n 0
counts_rest (Optional sort) n = nat_le n 1
counts_rest (AtLeast sort least) n = nat_le least n
counts_rest (SomeThen sort last) n = nat_le 2 n
counts_rest (Set sort least) n = nat_le (min least 1) n

-- a node of this row may have so many kids
abbrev pub counts : Row → ℕ → Bool
counts (Leaf sort) n = false
counts (Node front rest) n = nat_le (length front) n && counts_rest rest (n - length front)

-- a kid behind the front may have the tag, where so many stand behind it
abbrev pub rest_admits : Rest → ℕ → Tag → Bool
rest_admits Nothing later t = false
rest_admits (Optional sort) later t = admits sort t
rest_admits (AtLeast sort least) later t = admits sort t
rest_admits (SomeThen sort last) zero t = admits last t
rest_admits (SomeThen sort last) (suc later) t = admits sort t
rest_admits (Set sort least) later t = admits sort t

-- a kid may have the tag, by the sort at its place in front, if there is one, and else by the rest
abbrev pub place_admits : Option Sort → Rest → ℕ → Tag → Bool
place_admits (Some sort) rest later t = admits sort t
place_admits None rest later t = rest_admits rest later t

-- the kid at the place may have the tag, where so many stand behind it
abbrev pub admits_at : Row → ℕ → ℕ → Tag → Bool
admits_at (Leaf sort) place later t = false
admits_at (Node front rest) place later t = place_admits (slice_get front place) rest later t

-- each kid from this place on may have its tag
abbrev pub admits_from : Row → ℕ → List Tag → Bool
admits_from row place [] = true
admits_from row place (t ∷ ts) = admits_at row place (length ts) t && admits_from row (suc place) ts
