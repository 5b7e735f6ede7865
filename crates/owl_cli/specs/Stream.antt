-- What is known of a writer that bytes are put to.
use Rattle.std.specs.Prelude.{ℕ, List, Option}

-- how often a put failed, and the bytes that the writer holds, where it tells them
pub record Stream : Type 0 where
  pub faults : ℕ
  pub contents : Option (List ℕ)

-- nothing was put yet
abbrev pub fresh : Option (List ℕ) → Stream
fresh contents = record { faults = 0; contents = contents }
