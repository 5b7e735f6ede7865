-- What the outside tells of itself.
use Rattle.std.specs.Prelude.{◌≡◌, ◌≢◌, ◌<◌, ◌+◌, ◌-◌, ◌^◌, ◌++◌, ◌⊎◌, ℕ, min, List, Option, None, Some}

-- a count of faults rose, or stands at its last value
abbrev pub Rose : ℕ → ℕ → Type 0
Rose old new = (old < new) ⊎ (new ≡ 2 ^ 64 - 1)

-- what stood under a name before these bytes were taken from its front; a name that is not there had nothing to take
abbrev pub before : List ℕ → Option (List ℕ) → Option (List ℕ)
before taken None = None
before taken (Some rest) = Some (taken ++ rest)

-- every other name has what it had
abbrev pub SameElsewhere : {A : Type 0} → List ℕ → (List ℕ → A) → (List ℕ → A) → Type 0
SameElsewhere name old new = (other : List ℕ) → other ≢ name → new other ≡ old other

-- one more, up to the last value that a count of 64 bits has
abbrev pub raised : ℕ → ℕ
raised count = min (count + 1) (2 ^ 64 - 1)
