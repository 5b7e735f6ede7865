-- Things by their numbers.
use Rattle.std.specs.Prelude.{ℕ, List, map}

-- each pair of things as the pair of their numbers
abbrev pub numbered : {P : Type 0} → (P → ℕ) → List (P × P) → List (ℕ × ℕ)
numbered {P} number pairs = map (λ (pair : P × P). (number pair.0, number pair.1)) pairs
