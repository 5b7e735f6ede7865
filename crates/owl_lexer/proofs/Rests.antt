-- What a pattern leaves behind a character: the partial derivatives of a regular expression.
use Rattle.std.specs.Prelude.{◌⊎◌, ℕ, Bool, true, false, ◌&&◌, ◌||◌, List, [], ◌∷◌, ◌++◌, if◌then◌else◌}
use Rattle.owl_lexer.specs.Patterns.{Matches, Pattern}
use Rattle.owl_lexer.specs.Patterns.Pattern.{empty, one, both, either, many}

-- no characters at all are as the pattern says
abbrev pub is_nullable : Pattern → Bool
is_nullable empty = true
is_nullable (one set) = false
is_nullable (both p q) = is_nullable p && is_nullable q
is_nullable (either p q) = is_nullable p || is_nullable q
is_nullable (many p) = true

-- one pattern and then another, where the first may be nothing
abbrev pub join : Pattern → Pattern → Pattern
join empty q = q
join (one set) q = both (one set) q
join (both a b) q = both (both a b) q
join (either a b) q = both (either a b) q
join (many a) q = both (many a) q

abbrev pub join_each : List Pattern → Pattern → List Pattern
join_each [] q = []
join_each (p ∷ ps) q = join p q ∷ join_each ps q

-- what may be left behind a character, where the test tells whether it is in a set
abbrev pub rests : (ℕ → Bool) → Pattern → List Pattern
rests test empty = []
rests test (one set) = if test set then empty ∷ [] else []
rests test (both p q) = join_each (rests test p) q ++ (if is_nullable p then rests test q else [])
rests test (either p q) = rests test p ++ rests test q
rests test (many p) = join_each (rests test p) (many p)

-- the characters are as one of the patterns says
abbrev pub MatchesOne : (ℕ → ℕ → Bool) → List Pattern → List ℕ → Type 0
MatchesOne test [] cs = ⊥
MatchesOne test (p ∷ ps) cs = Matches test p cs ⊎ MatchesOne test ps cs
