-- Text as strings and IRI references write it (RDF 1.1 Turtle, sections 6.4 and 6.5).
use Rattle.std.specs.Prelude.{◌≡◌, ℕ, ◌==◌, false, List, [], ◌∷◌, ◌++◌, length, Option, None, Some}
use Rattle.ttl_tokens.specs.Escapes.{character_at, hex_number, in_front, string_escape}

-- A character; an ECHAR, by what is behind its backslash; a UCHAR, by its four or eight digits.
pub data Piece : Type 0 where
  plain : ℕ → Piece
  echar : ℕ → Piece
  uchar : List ℕ → Piece
  long_uchar : List ℕ → Piece

-- how a piece is written
abbrev pub piece_spelling : Piece → List ℕ
piece_spelling (plain c) = c ∷ []
piece_spelling (echar c) = 0x5C ∷ c ∷ []
piece_spelling (uchar digits) = 0x5C ∷ 0x75 ∷ digits
piece_spelling (long_uchar digits) = 0x5C ∷ 0x55 ∷ digits

-- the character for which it stands, if it stands for one
abbrev pub piece_character : Piece → Option ℕ
piece_character (plain c) = Some c
piece_character (echar c) = Some (string_escape c)
piece_character (uchar digits) = character_at (hex_number digits)
piece_character (long_uchar digits) = character_at (hex_number digits)

-- no other piece is written like it
abbrev pub IsPiece : Piece → Type 0
IsPiece (plain c) = (c == 0x5C) ≡ false
IsPiece (echar c) = ((c == 0x75) ≡ false) × ((c == 0x55) ≡ false)
IsPiece (uchar digits) = length digits ≡ 4
IsPiece (long_uchar digits) = length digits ≡ 8

-- the characters for which pieces stand, if each stands for one
abbrev pub characters_of : List Piece → Option (List ℕ)
characters_of [] = Some []
characters_of (piece ∷ others) = in_front (piece_character piece) (characters_of others)

-- a text, and behind it what is left
abbrev pub behind_text : List ℕ → Option (List ℕ) → Option (List ℕ)
behind_text text None = None
behind_text text (Some others) = Some (text ++ others)
