-- Where bytes go: they are kept, up to so many, or hashed.
use Rattle.std.specs.Prelude.{◌≡◌, ◌<◌, ◌≤◌, ◌+◌, ℕ, List, ◌++◌, length, Option, None, Some}
use Rattle.owl_canon.specs.declared.fault.WriteFault.{WriteFault}
use Rattle.owl_canon.specs.declared.fault.WriteFault.TheVariants.{Memory, TooLong}
use Rattle.owl_canon.specs.declared.sink.Sink.{Sink}
use Rattle.owl_canon.specs.declared.sink.Sink.TheVariants.{Hashed, Kept}
use Rattle.sha2.specs.Hashers.{Holds256}

-- it has taken these bytes
abbrev pub Holds : Sink → List ℕ → Type 0
Holds (Kept bytes limit) taken = (bytes.items ≡ taken) × (length taken ≤ limit)
Holds (Hashed hasher) taken = Holds256 hasher taken

-- so many bytes may be kept
abbrev pub limit_of : Sink → Option ℕ
limit_of (Kept bytes limit) = Some limit
limit_of (Hashed hasher) = None

-- behind what it had taken it takes these bytes
pub record Takes (old : Sink) (bytes : List ℕ) (new : Sink) : Type 0 where
  pub taken : (before : List ℕ) → Holds old before → Holds new (before ++ bytes)
  pub limit : limit_of new ≡ limit_of old

-- so many bytes pass the limit, or memory ran out
abbrev pub IsStopped : Option ℕ → WriteFault → ℕ → Type 0
IsStopped None fault count = ⊥
IsStopped (Some limit) TooLong count = limit < count
IsStopped (Some limit) Memory count = Unit {0}

-- it doesn't take all of these bytes
pub record Stops (old : Sink) (bytes : List ℕ) (fault : WriteFault) : Type 0 where
  pub stopped : (before : List ℕ) → Holds old before → IsStopped (limit_of old) fault (length before + length bytes)
