-- Sets as lists: each element once, in ascending order.
use Rattle.std.specs.Prelude.{List, [], ◌∷◌, ◌↔◌, Contains}
use Rattle.std.specs.declared.cmp.Ordering.{Ordering}
use Rattle.std.specs.declared.cmp.Ordering.TheVariants.{Less, Equal, Greater}
use Rattle.std.specs.List.Sorted.{IsStrictlySortedBy}

-- one of three, by how two elements compare
abbrev pub by_order : {X : Type 0} → Ordering → X → X → X → X
by_order Less before same behind = before
by_order Equal before same behind = same
by_order Greater before same behind = behind

module _ {X : Type 0} (cmp : X → X → Ordering) where
  -- an element put in its place, unless one that ties with it is there
  abbrev pub put : X → List X → List X
  put x [] = x ∷ []
  put x (y ∷ ys) = by_order (cmp x y) (x ∷ y ∷ ys) (y ∷ ys) (y ∷ put x ys)

  -- the elements of a list, each once, in ascending order
  abbrev pub ascending : List X → List X
  ascending [] = []
  ascending (x ∷ xs) = put x (ascending xs)

  -- each element is below those behind it
  abbrev pub IsAscending : List X → Type 0
  IsAscending = IsStrictlySortedBy cmp

-- the lists have the same elements, in whatever order and however often
abbrev pub HoldSame : {X : Type 0} → List X → List X → Type 0
HoldSame {X} xs ys = (x : X) → Contains xs x ↔ Contains ys x

-- no element stands twice
abbrev pub AreApart : {X : Type 0} → List X → Type 0
AreApart [] = Unit {0}
AreApart (x ∷ xs) = (Contains xs x → ⊥) × AreApart xs
