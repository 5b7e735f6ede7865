-- Grammars of lexemes: a regular pattern for each kind, over sets of characters.
use Rattle.std.specs.Prelude.{◌≡◌, ◌⊎◌, ℕ, Bool, false, ◌&&◌, ◌||◌, not, nat_le, List, [], ◌∷◌, slice_index_or}
use Rattle.owl_lexer.specs.Patterns.{Matches, Pattern}

-- the character lies in one of the ranges, from the first to the last of each
abbrev pub is_in_ranges : List (ℕ × ℕ) → ℕ → Bool
is_in_ranges [] c = false
is_in_ranges (range ∷ ranges) c = (nat_le range.0 c && nat_le c range.1) || is_in_ranges ranges c

-- the characters of some ranges, or all others
pub data CharacterSet : Type 0 where
  inside : List (ℕ × ℕ) → CharacterSet
  outside : List (ℕ × ℕ) → CharacterSet

abbrev pub has : CharacterSet → ℕ → Bool
has (inside ranges) c = is_in_ranges ranges c
has (outside ranges) c = not (is_in_ranges ranges c)

-- whether a character is in the set of this number, as none is in one behind the last
abbrev pub test_of : List CharacterSet → ℕ → ℕ → Bool
test_of sets number c = has (slice_index_or sets number (inside [])) c

-- a kind of lexeme, and the pattern of its characters
pub record Terminal : Type 0 where
  pub kind : ℕ
  pub pattern : Pattern

-- the characters are a lexeme of this kind, as one of the terminals says
abbrev pub IsLexemeOf : (ℕ → ℕ → Bool) → List Terminal → ℕ → List ℕ → Type 0
IsLexemeOf test [] kind cs = ⊥
IsLexemeOf test (terminal ∷ terminals) kind cs =
    ((terminal.kind ≡ kind) × Matches test terminal.pattern cs) ⊎ IsLexemeOf test terminals kind cs

pub record Grammar : Type 0 where
  pub sets : List CharacterSet
  pub terminals : List Terminal

-- the characters are a lexeme of this kind
abbrev pub IsLexeme : Grammar → ℕ → List ℕ → Type 0
IsLexeme grammar kind cs = IsLexemeOf (test_of grammar.sets) grammar.terminals kind cs
