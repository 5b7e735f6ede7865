-- The first difference of two lists of numbers.
use Rattle.std.specs.Prelude.{ℕ, Bool, true, false, nat_eq, List, [], ◌∷◌, Option, None, Some}

abbrev pub differ_or : Bool → ℕ → ℕ → Option (ℕ × ℕ) → Option (ℕ × ℕ)
differ_or true k l rest = rest
differ_or false k l rest = Some (k, l)

-- the numbers at the first place where both lists have one and they differ
abbrev pub first_difference : List ℕ → List ℕ → Option (ℕ × ℕ)
first_difference [] ls = None
first_difference (k ∷ ks) [] = None
first_difference (k ∷ ks) (l ∷ ls) = differ_or (nat_eq k l) k l (first_difference ks ls)
