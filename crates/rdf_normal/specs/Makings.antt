-- What becomes of an arena in which trees are made.
use Rattle.std.specs.Prelude.{◌≡◌, ◌<◌, ℕ, Bool, filter, not, List, [], ◌∷◌, ◌++◌, length, map, slice_index_or}
use Rattle.std.specs.Ordering.{nat_cmp}
use Rattle.owl_arena.specs.Held.{AreHeld, tree_at, trees_at}
use Rattle.owl_list.specs.Ascending.{HoldSame, IsAscending}
use Rattle.owl_tree.specs.Trees.{Tree}
use Rattle.rdf_normal.specs.NormalForms.{bare, is_annotated}
use Rattle.rdf_normal.specs.declared.own.Parted.{Parted}
use Rattle.rdf_normal.specs.declared.spreading.Assertion.{Assertion}

-- the trees keep their numbers, and others may stand behind them
pub record Extends (old new : List Tree) : Type 0 where
  pub more : List Tree
  pub trees : new ≡ old ++ more

-- the tree has the number
pub record IsMade (old new : List Tree) (id : ℕ) (t : Tree) : Type 0 where
  pub extends : Extends old new
  pub held : id < length new
  pub tree : tree_at new id ≡ t

-- the trees have the numbers
pub record AreMade (old new : List Tree) (ids : List ℕ) (ts : List Tree) : Type 0 where
  pub extends : Extends old new
  pub held : AreHeld new ids
  pub trees : trees_at new ids ≡ ts

-- its kids, by their numbers
abbrev pub numbers_of : Assertion → List ℕ
numbers_of a = a.notes ∷ a.property ∷ a.from ∷ a.to ∷ []

-- those that pass the test and those that don't, in the same order
pub record IsParted (ts : List Tree) (test : Tree → Bool) (ids : List ℕ) (p : Parted) : Type 0 where
  pub own : trees_at ts p.own.items ≡ filter test (trees_at ts ids)
  pub others : trees_at ts p.others.items ≡ filter (λ t. not (test t)) (trees_at ts ids)
  pub own_held : AreHeld ts p.own.items
  pub others_held : AreHeld ts p.others.items

-- numbers in ascending order, of what is annotated among the trees, without its annotations
pub record HasBareForms (ts : List Tree) (ids said : List ℕ) : Type 0 where
  pub ascends : IsAscending nat_cmp said
  pub held : AreHeld ts said
  pub forms : HoldSame (trees_at ts said) (map bare (filter is_annotated (trees_at ts ids)))

-- the number that is known at this place
abbrev pub image : List ℕ → ℕ → ℕ
image known id = slice_index_or known id 0
