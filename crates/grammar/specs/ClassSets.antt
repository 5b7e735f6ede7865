-- Sets of classes as bits.
use Rattle.std.specs.Prelude.{◌≡◌, ℕ, Bool, nat_eq, bit_and}
use Rattle.std.specs.Int.{bit_at}

-- a set has a class
pub record Has (set class : ℕ) : Type 0 where
  pub bit : bit_at set class ≡ 1

-- each class of a set is in another
abbrev pub is_within : ℕ → ℕ → Bool
is_within set other = nat_eq (bit_and set other) set

-- no class is in both sets
abbrev pub are_apart : ℕ → ℕ → Bool
are_apart set other = nat_eq (bit_and set other) 0
