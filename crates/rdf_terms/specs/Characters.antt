-- Tests of the characters of a text.
use Rattle.std.specs.Prelude.{ℕ, Bool, false, List, [], ◌∷◌}
use Rattle.std.specs.List.{list_all}

-- one or more that pass
abbrev pub is_run_of : (ℕ → Bool) → List ℕ → Bool
is_run_of test [] = false
is_run_of test (c ∷ cs) = list_all test (c ∷ cs)
