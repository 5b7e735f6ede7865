-- Sets of sorts as bits, and those of all trees of an arena.
use Rattle.std.specs.Prelude.{◌≡◌, ◌<◌, ℕ, Bool, nat_eq, List, length, slice_index_or}
use Rattle.std.specs.Int.{bit_at}
use Rattle.owl_arena.specs.Held.{tree_at}
use Rattle.owl_tree.specs.Trees.{Tree}
use Rattle.profile_sorts.specs.declared.set.SortSet.{SortSet}
use Rattle.profile_sorts.specs.declared.sort.Sort.{Sort}
use Rattle.profile_sorts.specs.declared.sort.Sort.TheVariants.{Anything, Thing, Class, Property, ZeroOrOne, Ranges, SharedDatatypes, Named, ElAxiom, ElClasses, ElRanges, ElProperties, QlAxiom, QlClasses, QlSub, QlSuper, RlAxiom, RlClasses, RlSub, RlFiller, RlSuper, RlEquivalent, RlDatatypes, RlProperties}
use Rattle.profile_sorts.specs.Sorts.{sorts}

unfoldable pub number_of : Sort → ℕ
number_of Anything = 0
number_of Thing = 1
number_of Class = 2
number_of Property = 3
number_of ZeroOrOne = 4
number_of Ranges = 5
number_of SharedDatatypes = 6
number_of Named = 7
number_of ElAxiom = 8
number_of ElClasses = 9
number_of ElRanges = 10
number_of ElProperties = 11
number_of QlAxiom = 12
number_of QlClasses = 13
number_of QlSub = 14
number_of QlSuper = 15
number_of RlAxiom = 16
number_of RlClasses = 17
number_of RlSub = 18
number_of RlFiller = 19
number_of RlSuper = 20
number_of RlEquivalent = 21
number_of RlDatatypes = 22
number_of RlProperties = 23

-- the set has the sort
abbrev pub has : SortSet → Sort → Bool
has set s = nat_eq (bit_at set.bits (number_of s)) 1

abbrev pub no_sorts : SortSet
no_sorts = record { bits = 0 }

-- the set of the tree in this place
abbrev pub set_at : List SortSet → ℕ → SortSet
set_at sets id = slice_index_or sets id no_sorts

-- what is known of the tree in this place
abbrev pub known_at : List SortSet → ℕ → Sort → Bool
known_at sets id = has (set_at sets id)

-- the set has the sorts of the tree, and no others
pub record HasSorts (t : Tree) (set : SortSet) : Type 0 where
  pub each : (s : Sort) → has set s ≡ sorts t s

-- so it is of the trees in the first places
abbrev pub AreSortsBelow : ℕ → List Tree → List SortSet → Type 0
AreSortsBelow count ts sets = (id : ℕ) → id < count → HasSorts (tree_at ts id) (set_at sets id)

-- the sorts of each tree, by its place
pub record AreSorts (ts : List Tree) (sets : List SortSet) : Type 0 where
  pub size : length sets ≡ length ts
  pub told : AreSortsBelow (length ts) ts sets
