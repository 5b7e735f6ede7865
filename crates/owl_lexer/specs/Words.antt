-- Words among characters, or among bytes.
use Rattle.std.specs.Prelude.{◌≡◌, ◌⊎◌, ℕ, List, [], ◌∷◌, ◌++◌}

-- the word stands among these
pub record Holds (word cs : List ℕ) : Type 0 where
  pub front : List ℕ
  pub rest : List ℕ
  pub parts : cs ≡ front ++ (word ++ rest)

-- one of the words does
abbrev pub HoldsOne : List (List ℕ) → List ℕ → Type 0
HoldsOne [] cs = ⊥
HoldsOne (word ∷ words) cs = Holds word cs ⊎ HoldsOne words cs
