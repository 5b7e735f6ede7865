-- Regular patterns of characters, as grammars write their terminals.
use Rattle.std.specs.Prelude.{◌≡◌, ◌⊎◌, ℕ, Bool, true, List, [], ◌∷◌, ◌++◌}

-- Nothing; a character of the set of this number; one pattern and then another; one or another; any number of times.
pub data Pattern : Type 0 where
  empty : Pattern
  one : ℕ → Pattern
  both : Pattern → Pattern → Pattern
  either : Pattern → Pattern → Pattern
  many : Pattern → Pattern

-- the characters are these parts, one behind another, and each part is as told
abbrev pub Joins : (List ℕ → Type 0) → List (List ℕ) → List ℕ → Type 0
Joins IsPart [] cs = cs ≡ []
Joins IsPart (part ∷ parts) cs = (rest : List ℕ) × IsPart part × (cs ≡ part ++ rest) × Joins IsPart parts rest

-- The characters are as the pattern says, where the test tells whether a character is in the set of a number.
abbrev pub Matches : (ℕ → ℕ → Bool) → Pattern → List ℕ → Type 0
Matches test empty cs = cs ≡ []
Matches test (one set) cs = (c : ℕ) × (test set c ≡ true) × (cs ≡ c ∷ [])
Matches test (both p q) cs =
    (front : List ℕ) × (back : List ℕ) × Matches test p front × Matches test q back × (cs ≡ front ++ back)
Matches test (either p q) cs = Matches test p cs ⊎ Matches test q cs
Matches test (many p) cs = (parts : List (List ℕ)) × Joins (Matches test p) parts cs
