-- Of what names are made: the classes of characters of RDF 1.1 Turtle (section 6.5), which the three syntaxes share,
-- and the names that are cut by them. A class is a table of ranges, with both ends inside.
use Rattle.std.specs.Prelude.{◌≡◌, ℕ, Bool, true, false, ◌||◌, ◌==◌, List, [], ◌∷◌, ◌++◌, codes, flat_map}
use Rattle.std.specs.Char.{is_ascii_alphabetic, is_ascii_alphanumeric, is_ascii_digit, is_ascii_hexdigit}
use Rattle.std.specs.Int.{is_in_range}
use Rattle.std.specs.List.{AllByRecursion, list_any, slice_split}
use Rattle.owl_characters.specs.Iri.{AllAre, is_among}

-- the first character passes the test
abbrev pub begins_with : (ℕ → Bool) → List ℕ → Bool
begins_with test [] = false
begins_with test (c ∷ cs) = test c

abbrev pub is_dot : ℕ → Bool
is_dot c = is_among (codes ".") c

abbrev pub is_colon : ℕ → Bool
is_colon c = is_among (codes ":") c

abbrev pub is_hyphen : ℕ → Bool
is_hyphen c = c == 0x2D

-- a character lies in one of the ranges
abbrev pub in_ranges : List (ℕ × ℕ) → ℕ → Bool
in_ranges ranges c = list_any (λ range. is_in_range range.0 range.1 c) ranges

abbrev pub base_ranges : List (ℕ × ℕ)
base_ranges =
    (0x41, 0x5A) ∷ (0x61, 0x7A) ∷ (0xC0, 0xD6) ∷ (0xD8, 0xF6) ∷ (0xF8, 0x2FF) ∷ (0x370, 0x37D) ∷ (0x37F, 0x1FFF)
    ∷ (0x200C, 0x200D) ∷ (0x2070, 0x218F) ∷ (0x2C00, 0x2FEF) ∷ (0x3001, 0xD7FF) ∷ (0xF900, 0xFDCF) ∷ (0xFDF0, 0xFFFD)
    ∷ (0x10000, 0xEFFFF) ∷ []

-- the underscore
abbrev pub start_ranges : List (ℕ × ℕ)
start_ranges = (0x5F, 0x5F) ∷ []

-- the hyphen, the digits, the middle dot, the combining marks and the ties
abbrev pub part_ranges : List (ℕ × ℕ)
part_ranges = (0x2D, 0x2D) ∷ (0x30, 0x39) ∷ (0xB7, 0xB7) ∷ (0x300, 0x36F) ∷ (0x203F, 0x2040) ∷ []

-- PN_CHARS_BASE
abbrev pub is_base : ℕ → Bool
is_base c = in_ranges base_ranges c

-- PN_CHARS_U
abbrev pub is_start : ℕ → Bool
is_start c = is_base c || in_ranges start_ranges c

-- PN_CHARS
abbrev pub is_part : ℕ → Bool
is_part c = is_start c || in_ranges part_ranges c

-- a character behind the first one of a name
abbrev pub is_inner : ℕ → Bool
is_inner c = is_part c || is_among (codes ".") c

abbrev pub ends_in_dot : List ℕ → Bool
ends_in_dot [] = false
ends_in_dot (c ∷ []) = is_among (codes ".") c
ends_in_dot (c ∷ d ∷ cs) = ends_in_dot (d ∷ cs)

-- a first character that passes the test, then PN_CHARS and dots, and no dot at the end
abbrev pub IsNameFrom : (ℕ → Bool) → List ℕ → Type 0
IsNameFrom test [] = ⊥
IsNameFrom test (c ∷ cs) = (test c ≡ true) × AllAre is_inner cs × (ends_in_dot (c ∷ cs) ≡ false)

-- PN_PREFIX, or nothing: the name of a prefix
abbrev pub IsPrefixName : List ℕ → Type 0
IsPrefixName [] = Unit {0}
IsPrefixName (c ∷ cs) = IsNameFrom is_base (c ∷ cs)

abbrev pub is_label_start : ℕ → Bool
is_label_start c = is_start c || is_ascii_digit c

-- BLANK_NODE_LABEL without its `_:`
abbrev pub IsLabel : List ℕ → Type 0
IsLabel cs = IsNameFrom is_label_start cs

-- one or more characters that pass the test
abbrev pub IsRunOf : (ℕ → Bool) → List ℕ → Type 0
IsRunOf test [] = ⊥
IsRunOf test (c ∷ cs) = AllAre test (c ∷ cs)

-- letters, and then subtags of letters and digits
abbrev pub AreSubtags : List (List ℕ) → Type 0
AreSubtags [] = ⊥
AreSubtags (first ∷ others) = IsRunOf is_ascii_alphabetic first × AllByRecursion (IsRunOf is_ascii_alphanumeric) others

-- LANGTAG without its `@`: subtags with hyphens between them
abbrev pub IsLanguageTag : List ℕ → Type 0
IsLanguageTag cs = AreSubtags (slice_split (λ c. c == 0x2D) cs)

-- a piece of a local part: a character, `%` with two hexadecimal digits, or a mark behind a backslash
pub data Piece : Type 0 where
  plain : ℕ → Piece
  percent : ℕ → ℕ → Piece
  escaped : ℕ → Piece

-- how a piece is written
abbrev pub piece_spelling : Piece → List ℕ
piece_spelling (plain c) = c ∷ []
piece_spelling (percent a b) = codes "%" ++ (a ∷ b ∷ [])
piece_spelling (escaped c) = codes "\\" ++ (c ∷ [])

-- what it stands for: `%` and its digits stand for themselves
abbrev pub piece_text : Piece → List ℕ
piece_text (plain c) = c ∷ []
piece_text (percent a b) = codes "%" ++ (a ∷ b ∷ [])
piece_text (escaped c) = c ∷ []

-- a mark that may stand behind a backslash
abbrev pub is_escapable : ℕ → Bool
is_escapable c = is_among (codes "_~.-!$&'()*+,;=/?#@%") c

-- a piece of which the plain characters pass the test
abbrev pub IsPieceOf : (ℕ → Bool) → Piece → Type 0
IsPieceOf test (plain c) = test c ≡ true
IsPieceOf test (percent a b) = (is_ascii_hexdigit a ≡ true) × (is_ascii_hexdigit b ≡ true)
IsPieceOf test (escaped c) = is_escapable c ≡ true

abbrev pub is_local_start : ℕ → Bool
is_local_start c = is_start c || is_ascii_digit c || is_among (codes ":") c

abbrev pub is_local_inner : ℕ → Bool
is_local_inner c = is_part c || is_among (codes ".:") c

-- the last piece is a dot without a backslash
abbrev pub ends_in_plain_dot : List Piece → Bool
ends_in_plain_dot [] = false
ends_in_plain_dot (plain c ∷ []) = is_among (codes ".") c
ends_in_plain_dot (percent a b ∷ []) = false
ends_in_plain_dot (escaped c ∷ []) = false
ends_in_plain_dot (piece ∷ next ∷ others) = ends_in_plain_dot (next ∷ others)

abbrev pub AreLocalPieces : List Piece → Type 0
AreLocalPieces [] = Unit {0}
AreLocalPieces (first ∷ others) =
    IsPieceOf is_local_start first × AllByRecursion (IsPieceOf is_local_inner) others × (ends_in_plain_dot (first ∷ others) ≡ false)

-- PN_LOCAL, or nothing: a local part that is written so, and stands for this text
pub record SpellsLocal (spelling text : List ℕ) : Type 0 where
  pub pieces : List Piece
  pub pieces_fit : AreLocalPieces pieces
  pub spelled : spelling ≡ flat_map piece_spelling pieces
  pub stands_for : text ≡ flat_map piece_text pieces
