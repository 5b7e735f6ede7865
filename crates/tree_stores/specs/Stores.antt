-- Numbers that stand for trees.
use Rattle.std.specs.Prelude.{◌≡◌, ◌≤◌, ◌<◌, ◌+◌, ℕ, List, [], ◌∷◌, Some, length, map, max, slice_get}
use Rattle.std.specs.List.{AllByRecursion, sum_by}
use Rattle.owl_arena.specs.Shared.{deepest, heaviest}
use Rattle.owl_list.specs.Ascending.{AreApart}
use Rattle.owl_tree.specs.Canonical.{canonical}
use Rattle.owl_tree.specs.Trees.{Tree, depth, kids_in, weight}
use Rattle.tree_stores.specs.declared.fault.TreeFault.{TreeFault}
use Rattle.tree_stores.specs.declared.fault.TreeFault.TheVariants.{TooDeep, TooHeavy, Memory}

-- numbers and their trees, one by one
abbrev pub StandFor : {N : Type 0} → (Tree → N → Type 0) → List Tree → List N → Type 0
StandFor Stands [] [] = Unit {0}
StandFor Stands [] (n ∷ ns) = ⊥
StandFor Stands (t ∷ ts) [] = ⊥
StandFor Stands (t ∷ ts) (n ∷ ns) = Stands t n × StandFor Stands ts ns

-- the numbers stand for some trees
pub record AreStanding {N : Type 0} (Stands : Tree → N → Type 0) (ns : List N) : Type 0 where
  pub trees : List Tree
  pub stand : StandFor Stands trees ns

-- some number stands for the tree
pub record IsHeld {N : Type 0} (Stands : Tree → N → Type 0) (t : Tree) : Type 0 where
  pub number : N
  pub stands : Stands t number

-- each number stands for what it stood for
abbrev pub Keeps : {N : Type 0} → (Tree → N → Type 0) → (Tree → N → Type 0) → Type 0
Keeps {N} Old New = (t : Tree) (n : N) → Old t n → New t n

-- the number is that of the tree's canonical form among the trees of an arena
abbrev pub HasNumber : List Tree → Tree → ℕ → Type 0
HasNumber trees t id = slice_get trees id ≡ Some (canonical t)

-- the number is the tree's depth, which is not too deep
pub record HasDepth (t : Tree) (d : ℕ) : Type 0 where
  pub is : depth t ≡ d
  pub shallow : d ≤ deepest

-- the greatest of the numbers
abbrev pub most_of : List ℕ → ℕ
most_of [] = 0
most_of (n ∷ ns) = max n (most_of ns)

-- the tree is not too deep, nor its canonical form too heavy
pub record IsSmall (t : Tree) : Type 0 where
  pub shallow : depth t ≤ deepest
  pub light : weight (canonical t) ≤ heaviest

-- it has more levels than a tree may have
abbrev pub IsDeep : Tree → Type 0
IsDeep t = deepest < depth t

-- its canonical form has more nodes and leaves
abbrev pub IsHeavy : Tree → Type 0
IsHeavy t = heaviest < weight (canonical t)

-- The tree is too deep or too heavy; want of memory is told of any.
abbrev pub IsTreeFault : {H : Type 0} → Tree → TreeFault H → Type 0
IsTreeFault t TooDeep = IsDeep t
IsTreeFault t (TooHeavy h) = IsHeavy t
IsTreeFault t Memory = Unit {0}

-- how many kids its canonical form has
abbrev pub kid_count : Tree → ℕ
kid_count t = length (kids_in (canonical t))

abbrev pub kid_sum : List Tree → ℕ
kid_sum ts = sum_by kid_count ts

-- The tree is equivalent to none that stood, and has at least so many kids.
pub record IsNew {N : Type 0} (Old : Tree → N → Type 0) (t : Tree) (kids : ℕ) : Type 0 where
  pub apart : (u : Tree) (n : N) → Old u n → canonical u ≡ canonical t → ⊥
  pub many : kids ≤ kid_count t

-- The sum, or the sum and the kids of the tree, which is new.
pub data IsSumWith {N : Type 0} (Old : Tree → N → Type 0) (t : Tree) (sum : ℕ) : ℕ → Type 0 where
  as_it_was : IsSumWith Old t sum sum
  with_kids : (kids : ℕ) → IsNew Old t kids → IsSumWith Old t sum (sum + kids)

-- With the kids of the tree, which is new, the sum is greater than a tree may be heavy.
pub record PassesWith {N : Type 0} (Old : Tree → N → Type 0) (t : Tree) (sum : ℕ) : Type 0 where
  pub kids : ℕ
  pub new : IsNew Old t kids
  pub beyond : heaviest < sum + kids

-- Trees of which the fact holds, which stand and no two of which are equivalent, have at least so many kids together.
pub record HaveKids {N : Type 0} (P : Tree → Type 0) (Stands : Tree → N → Type 0) (sum : ℕ) : Type 0 where
  pub trees : List Tree
  pub apart : AreApart (map canonical trees)
  pub each : AllByRecursion P trees
  pub held : AllByRecursion (IsHeld Stands) trees
  pub many : sum ≤ kid_sum trees

-- Trees of which the fact holds, no two of which are equivalent, have more kids together than a tree may have nodes and leaves.
pub record HaveManyKids (P : Tree → Type 0) : Type 0 where
  pub trees : List Tree
  pub apart : AreApart (map canonical trees)
  pub each : AllByRecursion P trees
  pub many : heaviest < kid_sum trees

-- the sum, or the sum and the kids of the first of the trees, which is new
abbrev pub IsSumWithFirst : {N : Type 0} → (Tree → N → Type 0) → List Tree → ℕ → ℕ → Type 0
IsSumWithFirst Old [] sum other = other ≡ sum
IsSumWithFirst Old (t ∷ ts) sum other = IsSumWith Old t sum other

-- With the kids of the first of the trees, which is new, the sum is too large.
abbrev pub IsFirstFault : {H N : Type 0} → (Tree → N → Type 0) → List Tree → ℕ → TreeFault H → Type 0
IsFirstFault Old [] sum fault = ⊥
IsFirstFault Old (t ∷ ts) sum TooDeep = ⊥
IsFirstFault Old (t ∷ ts) sum (TooHeavy h) = PassesWith Old t sum
IsFirstFault Old (t ∷ ts) sum Memory = ⊥
