-- Full IRIs, as far as their characters are looked at (Structural Specification, section 2.4, and RFC 3987).
use Rattle.std.specs.Prelude.{◌≡◌, ℕ, Bool, true, not, ◌&&◌, ◌||◌, ◌==◌, nat_lt, List, [], ◌∷◌, ◌++◌, codes}
use Rattle.std.specs.Char.{is_ascii_alphabetic, is_ascii_digit}
use Rattle.std.specs.List.{AllByRecursion, list_any}

-- each character passes the test
abbrev pub AllAre : (ℕ → Bool) → List ℕ → Type 0
AllAre test cs = AllByRecursion (λ c. test c ≡ true) cs

-- a character is one of these
abbrev pub is_among : List ℕ → ℕ → Bool
is_among cs c = list_any (λ x. x == c) cs

abbrev pub is_ascii : ℕ → Bool
is_ascii c = nat_lt c 128

-- a character behind the first one of a scheme
abbrev pub is_scheme_character : ℕ → Bool
is_scheme_character c = is_ascii_alphabetic c || is_ascii_digit c || is_among (codes "+-.") c

-- a character that may stand behind the scheme's colon: no space, no control below it, and none of nine marks
abbrev pub is_iri_character : ℕ → Bool
is_iri_character c = nat_lt 32 c && not (is_among (codes "<>\"{}|^`\\") c)

-- a letter, then letters, digits, `+`, `-` and `.`
abbrev pub IsScheme : List ℕ → Type 0
IsScheme [] = ⊥
IsScheme (c ∷ cs) = (is_ascii_alphabetic c ≡ true) × AllAre is_scheme_character cs

-- a scheme, a colon, and what may follow
pub record IsIri (cs : List ℕ) : Type 0 where
  pub scheme : List ℕ
  pub rest : List ℕ
  pub parts : cs ≡ scheme ++ (codes ":" ++ rest)
  pub named : IsScheme scheme
  pub allowed : AllAre is_iri_character rest
