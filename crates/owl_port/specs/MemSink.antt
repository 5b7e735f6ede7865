-- What a sink in memory holds.
use Rattle.std.specs.Prelude.{ℕ, List, Option}

-- the bytes so far, how many there is room for, the most that a put takes, how many puts were made, the number of the put that is to fail, and how many failed
pub record Sunk : Type 0 where
  pub written : List ℕ
  pub room : ℕ
  pub most : ℕ
  pub made : ℕ
  pub failing : Option ℕ
  pub faults : ℕ
