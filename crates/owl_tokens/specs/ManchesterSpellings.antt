-- How the tokens of Manchester Syntax are written (section 2.1).
use Rattle.std.specs.Prelude.{◌≡◌, ◌⊎◌, ℕ, true, List, ◌∷◌, ◌++◌, codes, flat_map}
use Rattle.std.specs.Char.{is_ascii_digit}
use Rattle.owl_characters.specs.Iri.{IsIri, is_among}
use Rattle.owl_characters.specs.Names.{IsLabel, IsLanguageTag, IsNameFrom, IsPrefixName, IsRunOf, SpellsLocal, is_start}
use Rattle.owl_tokens.specs.Tokens.{character_spelling}
use Rattle.owl_tokens.specs.declared.token.Sign.{Sign as Mark}
use Rattle.owl_tokens.specs.declared.token.Sign.TheVariants.{Open, Close, Equals, Carets, OpenBrace, CloseBrace, OpenBracket, CloseBracket, Comma, Less, AtMost, Greater, AtLeast}
use Rattle.owl_tokens.specs.declared.token.Token.{Token}
use Rattle.owl_tokens.specs.declared.token.Token.TheVariants.{Iri, Name, Blank, Str, At, Word, Int, Dec, Sign}

-- digits, perhaps behind a plus or a minus
abbrev pub IsInteger : List ℕ → Type 0
IsInteger cs =
    IsRunOf is_ascii_digit cs
    ⊎ ((c : ℕ) × (digits : List ℕ) × (is_among (codes "+-") c ≡ true) × IsRunOf is_ascii_digit digits × (cs ≡ c ∷ digits))

-- an integer, a dot and digits
pub record IsDecimal (cs : List ℕ) : Type 0 where
  pub integer : List ℕ
  pub digits : List ℕ
  pub is_integer : IsInteger integer
  pub are_digits : IsRunOf is_ascii_digit digits
  pub parts : cs ≡ integer ++ (codes "." ++ digits)

-- The characters are written for this punctuation mark, of which `=` is none.
abbrev pub SpellsMark : Mark → List ℕ → Type 0
SpellsMark Open cs = cs ≡ codes "("
SpellsMark Close cs = cs ≡ codes ")"
SpellsMark Equals cs = ⊥
SpellsMark Carets cs = cs ≡ codes "^^"
SpellsMark OpenBrace cs = cs ≡ codes "{"
SpellsMark CloseBrace cs = cs ≡ codes "}"
SpellsMark OpenBracket cs = cs ≡ codes "["
SpellsMark CloseBracket cs = cs ≡ codes "]"
SpellsMark Comma cs = cs ≡ codes ","
SpellsMark Less cs = cs ≡ codes "<"
SpellsMark AtMost cs = cs ≡ codes "<="
SpellsMark Greater cs = cs ≡ codes ">"
SpellsMark AtLeast cs = cs ≡ codes ">="

-- These characters are written for the token.
abbrev pub SpellsManchester : Token → List ℕ → Type 0
SpellsManchester (Iri iri) spelling = IsIri iri × (spelling ≡ codes "<" ++ (iri ++ codes ">"))
SpellsManchester (Name prefix local) spelling =
    (written : List ℕ) × IsPrefixName prefix × SpellsLocal written local × (spelling ≡ prefix ++ (codes ":" ++ written))
SpellsManchester (Blank label) spelling = IsLabel label × (spelling ≡ codes "_:" ++ label)
SpellsManchester (Str text) spelling = spelling ≡ codes "\"" ++ (flat_map character_spelling text ++ codes "\"")
SpellsManchester (At tag) spelling = IsLanguageTag tag × (spelling ≡ codes "@" ++ tag)
SpellsManchester (Word word) spelling = IsNameFrom is_start word × (spelling ≡ word)
SpellsManchester (Int number) spelling = IsInteger number × (spelling ≡ number)
SpellsManchester (Dec number) spelling = IsDecimal number × (spelling ≡ number)
SpellsManchester (Sign mark) spelling = SpellsMark mark spelling
