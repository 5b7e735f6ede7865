-- How the tokens of Functional-Style Syntax are written (Structural Specification, sections 2.4, 3.7, 5.6.2 and 5.7, with
-- the names of RDF 1.1 Turtle, section 6.5).
use Rattle.std.specs.Prelude.{◌≡◌, ℕ, Bool, List, [], ◌∷◌, ◌++◌, codes, flat_map, if◌then◌else◌}
use Rattle.std.specs.Char.{is_ascii_digit}
use Rattle.owl_characters.specs.Iri.{AllAre, IsIri, is_among, is_iri_character}
use Rattle.owl_characters.specs.Names.{IsLabel, IsLanguageTag, IsNameFrom, IsPrefixName, IsRunOf, SpellsLocal, is_start}
use Rattle.owl_tokens.specs.declared.token.Sign.{Sign as Mark}
use Rattle.owl_tokens.specs.declared.token.Sign.TheVariants.{Open, Close, Equals, Carets, OpenBrace, CloseBrace, OpenBracket, CloseBracket, Comma, Less, AtMost, Greater, AtLeast}
use Rattle.owl_tokens.specs.declared.token.Token.{Token}
use Rattle.owl_tokens.specs.declared.token.Token.TheVariants.{Iri, Name, Blank, Str, At, Word, Int, Dec, Sign}

-- The characters are written for this punctuation mark, of which the syntax has four.
abbrev pub SpellsMark : Mark → List ℕ → Type 0
SpellsMark Open cs = cs ≡ codes "("
SpellsMark Close cs = cs ≡ codes ")"
SpellsMark Equals cs = cs ≡ codes "="
SpellsMark Carets cs = cs ≡ codes "^^"
SpellsMark OpenBrace cs = ⊥
SpellsMark CloseBrace cs = ⊥
SpellsMark OpenBracket cs = ⊥
SpellsMark CloseBracket cs = ⊥
SpellsMark Comma cs = ⊥
SpellsMark Less cs = ⊥
SpellsMark AtMost cs = ⊥
SpellsMark Greater cs = ⊥
SpellsMark AtLeast cs = ⊥

-- a character that stands in a string behind a backslash alone
abbrev pub is_escaped : ℕ → Bool
is_escaped c = is_among (codes "\"\\") c

-- how a character of a string is written
abbrev pub character_spelling : ℕ → List ℕ
character_spelling c = if is_escaped c then codes "\\" ++ (c ∷ []) else c ∷ []

-- These characters are written for the token. No number has a fraction.
abbrev pub Spells : Token → List ℕ → Type 0
Spells (Iri iri) spelling = IsIri iri × (spelling ≡ codes "<" ++ (iri ++ codes ">"))
Spells (Name prefix local) spelling =
    (written : List ℕ) × IsPrefixName prefix × SpellsLocal written local × (spelling ≡ prefix ++ (codes ":" ++ written))
Spells (Blank label) spelling = IsLabel label × (spelling ≡ codes "_:" ++ label)
Spells (Str text) spelling = spelling ≡ codes "\"" ++ (flat_map character_spelling text ++ codes "\"")
Spells (At tag) spelling = IsLanguageTag tag × (spelling ≡ codes "@" ++ tag)
Spells (Word word) spelling = IsNameFrom is_start word × (spelling ≡ word)
Spells (Int digits) spelling = IsRunOf is_ascii_digit digits × (spelling ≡ digits)
Spells (Dec number) spelling = ⊥
Spells (Sign mark) spelling = SpellsMark mark spelling

-- what a token of the syntax holds, however it was written
abbrev pub IsToken : Token → Type 0
IsToken (Iri iri) = IsIri iri
IsToken (Name prefix local) = IsPrefixName prefix × AllAre is_iri_character local
IsToken (Blank label) = IsLabel label
IsToken (Str text) = Unit {0}
IsToken (At tag) = IsLanguageTag tag
IsToken (Word word) = IsNameFrom is_start word
IsToken (Int digits) = IsRunOf is_ascii_digit digits
IsToken (Dec number) = ⊥
IsToken (Sign mark) = Unit {0}
