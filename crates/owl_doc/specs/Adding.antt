-- What comes of a number that is to be added.
use Rattle.std.specs.Prelude.{◌≡◌, ◌<◌, ◌≤◌, ◌+◌, ℕ, Bool, true, false, List, [], ◌∷◌, ◌++◌, Contains, Result, Ok, Err}
use Rattle.owl_doc.specs.declared.fault.AddFault.{AddFault}
use Rattle.owl_doc.specs.declared.fault.AddFault.TheVariants.{Memory, TooHeavy, WrongTag}
use Rattle.owl_arena.specs.Shared.{heaviest}

-- numbers that were added, and what all that was added weighs
pub record Stock : Type 0 where
  pub ids : List ℕ
  pub total : ℕ

-- it stands there already
pub record IsThere (old new : Stock) (id : ℕ) : Type 0 where
  pub there : Contains old.ids id
  pub same : new ≡ old

-- it is new, and comes behind the others
pub record Comes (old new : Stock) (id weight : ℕ) : Type 0 where
  pub absent : Contains old.ids id → ⊥
  pub light : old.total + weight ≤ heaviest
  pub ids : new.ids ≡ old.ids ++ id ∷ []
  pub total : new.total ≡ old.total + weight

-- it is new and too heavy
pub record IsRefused (old new : Stock) (id weight : ℕ) : Type 0 where
  pub absent : Contains old.ids id → ⊥
  pub heavy : heaviest < old.total + weight
  pub same : new ≡ old

-- it would come, had there been memory
pub record IsLeftOut (old new : Stock) (weight : ℕ) : Type 0 where
  pub light : old.total + weight ≤ heaviest
  pub same : new ≡ old

-- by what the call answers
abbrev pub Collects : Stock → ℕ → ℕ → Result Bool AddFault → Stock → Type 0
Collects old id weight (Ok true) new = Comes old new id weight
Collects old id weight (Ok false) new = IsThere old new id
Collects old id weight (Err TooHeavy) new = IsRefused old new id weight
Collects old id weight (Err Memory) new = IsLeftOut old new weight
Collects old id weight (Err WrongTag) new = ⊥
