-- The elements of a list of which a fact holds.
use Rattle.std.specs.Prelude.{◌≡◌, List, [], ◌∷◌, ◌++◌, Contains, Option, None, Some}
use Rattle.std.specs.List.{AllZip}

-- it holds of one of them
pub record HoldsOfOne {X : Type 0} (Holds : X → Type 0) (xs : List X) : Type 0 where
  pub one : X
  pub among : Contains xs one
  pub holds : Holds one

-- there is one, and it holds of it
abbrev pub HoldsOfSome : {X : Type 0} → (X → Type 0) → Option X → Type 0
HoldsOfSome Holds None = ⊥
HoldsOfSome Holds (Some x) = Holds x

-- those of the first list of which it holds are the second list, in their order
pub data AreThose {X : Type 0} (Holds : X → Type 0) : List X → List X → Type 0 where
  none : AreThose Holds [] []
  taken : (x : X) (xs ys : List X) → Holds x → AreThose Holds xs ys → AreThose Holds (x ∷ xs) (x ∷ ys)
  passed : (x : X) (xs ys : List X) → (Holds x → ⊥) → AreThose Holds xs ys → AreThose Holds (x ∷ xs) ys

-- Behind what was there stands what tells of those of these elements of which it holds, one by one.
pub record AddsThose {X Y : Type 0} (Holds : X → Type 0) (Tells : X → Y → Type 0) (xs : List X) (old new : List Y) : Type 0 where
  pub those : List X
  pub are : AreThose Holds xs those
  pub more : List Y
  pub told : AllZip Tells those more
  pub grown : new ≡ old ++ more
