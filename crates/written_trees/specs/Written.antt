-- Trees as they are written: where a grammar asks for two members of a set, one alone is written twice (Structural
-- Specification, sections 6 to 9, and Manchester Syntax, sections 2.3 to 2.6).
use Rattle.std.specs.Prelude.{ℕ, zero, suc, nat_le, if◌then◌else◌, List, [], ◌∷◌, length, Option, None, Some}
use Rattle.owl_tree.specs.declared.row.Rest.TheVariants.{Nothing, Optional, AtLeast, SomeThen, Set}
use Rattle.owl_tree.specs.Rows.{Row, Leaf, Node, row_of}
use Rattle.owl_tree.specs.Trees.{Tree, Kids, leaf, node, no_kids, kid, kids_of}

-- behind so many, one alone stands twice
abbrev pub doubled_behind : ℕ → List Tree → List Tree
doubled_behind zero [] = []
doubled_behind zero (t ∷ []) = t ∷ t ∷ []
doubled_behind zero (t ∷ u ∷ ts) = t ∷ u ∷ ts
doubled_behind (suc n) [] = []
doubled_behind (suc n) (t ∷ ts) = t ∷ doubled_behind n ts

-- where a row asks for two members of a set, one alone is written twice
abbrev pub doubled : Row → List Tree → List Tree
doubled (Leaf sort) ts = ts
doubled (Node front Nothing) ts = ts
doubled (Node front (Optional sort)) ts = ts
doubled (Node front (AtLeast sort least)) ts = ts
doubled (Node front (SomeThen sort last)) ts = ts
doubled (Node front (Set sort least)) ts = if nat_le 2 least then doubled_behind (length front) ts else ts

-- the tree as it is written
abbrev mutual
  pub written_form : Tree → Tree
  written_form (leaf t a) = leaf t a
  written_form (node t ks) = node t (kids_of (doubled (row_of t) (written_forms ks)))

  pub written_forms : Kids → List Tree
  written_forms no_kids = []
  written_forms (kid k ks) = written_form k ∷ written_forms ks

-- the member behind so many, where it is the only one
abbrev pub only_behind : {X : Type 0} → ℕ → List X → Option X
only_behind zero [] = None
only_behind zero (x ∷ []) = Some x
only_behind zero (x ∷ y ∷ zs) = None
only_behind (suc n) [] = None
only_behind (suc n) (x ∷ xs) = only_behind n xs

-- the only member of a set of which two have to be written
abbrev pub repeated : {X : Type 0} → Row → List X → Option X
repeated (Leaf sort) xs = None
repeated (Node front Nothing) xs = None
repeated (Node front (Optional sort)) xs = None
repeated (Node front (AtLeast sort least)) xs = None
repeated (Node front (SomeThen sort last)) xs = None
repeated (Node front (Set sort least)) xs = if nat_le 2 least then only_behind (length front) xs else None
