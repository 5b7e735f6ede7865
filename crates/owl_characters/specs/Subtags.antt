-- Language tags, by one character after another.
use Rattle.std.specs.Prelude.{ℕ, Bool, true, false, List, [], ◌∷◌, ◌&&◌, if◌then◌else◌}
use Rattle.std.specs.Char.{is_ascii_alphanumeric}
use Rattle.owl_characters.specs.Names.{is_hyphen}

-- The characters of the first subtag pass the test, those of the others are letters and digits, and a hyphen may stand
-- behind some.
abbrev pub tag_fits : (ℕ → Bool) → Bool → List ℕ → Bool
tag_fits test some [] = some
tag_fits test some (c ∷ cs) =
    if is_hyphen c then (some && tag_fits is_ascii_alphanumeric false cs) else (test c && tag_fits test true cs)

-- the test for characters behind a front of a tag
abbrev pub test_behind : (ℕ → Bool) → List ℕ → ℕ → Bool
test_behind test [] = test
test_behind test (c ∷ cs) = if is_hyphen c then test_behind is_ascii_alphanumeric cs else test_behind test cs
