-- The tokens that lexemes stand for.
use Rattle.std.specs.Prelude.{ℕ, ◌-◌, ◌==◌, Bool, true, false, List, [], ◌∷◌, length, take, drop, Option, None, Some, option_map, unwrap_or, if◌then◌else◌}
use Rattle.std.specs.List.{position}
use Rattle.owl_tokens.specs.declared.kinds.TheConstants.{AT, AT_LEAST, AT_MOST, BLANK, CARETS, CLOSE, CLOSE_BRACE, CLOSE_BRACKET, COMMA, DEC, EQUALS, GREATER, INT, IRI, LESS, NAME, OPEN, OPEN_BRACE, OPEN_BRACKET, STR, WORD}
use Rattle.owl_tokens.specs.declared.token.Sign.{Sign as Mark}
use Rattle.owl_tokens.specs.declared.token.Sign.TheVariants.{Open, Close, Equals, Carets, OpenBrace, CloseBrace, OpenBracket, CloseBracket, Comma, Less, AtMost, Greater, AtLeast}
use Rattle.owl_tokens.specs.declared.token.Token.{Token}
use Rattle.owl_tokens.specs.declared.token.Token.TheVariants.{Iri, Name, Blank, Str, At, Word, Int, Dec, Sign}

-- what stands between the first character and the last
abbrev pub between_ends : List ℕ → List ℕ
between_ends cs = take (length cs - 2) (drop 1 cs)

-- how many characters stand in front of the first colon
abbrev pub prefix_length : List ℕ → ℕ
prefix_length cs = unwrap_or (position (λ c. c == 0x3A) cs) (length cs)

abbrev pub prefix_in : List ℕ → List ℕ
prefix_in cs = take (prefix_length cs) cs

-- what stands behind the first colon
abbrev pub local_in : List ℕ → List ℕ
local_in cs = drop 1 (drop (prefix_length cs) cs)

-- A backslash is left out, and the character behind it stands for itself. The test tells whether a backslash stands in
-- front of the characters.
abbrev pub unescaped_behind : Bool → List ℕ → List ℕ
unescaped_behind escaped [] = []
unescaped_behind true (c ∷ cs) = c ∷ unescaped_behind false cs
unescaped_behind false (c ∷ cs) = if c == 0x5C then unescaped_behind true cs else c ∷ unescaped_behind false cs

unfoldable pub unescaped : List ℕ → List ℕ
unescaped cs = unescaped_behind false cs

-- the punctuation mark of a kind, if the kind is one of a mark
unfoldable pub sign_of : ℕ → Option Mark
sign_of kind =
    if kind == OPEN then Some Open
    else if kind == CLOSE then Some Close
    else if kind == EQUALS then Some Equals
    else if kind == CARETS then Some Carets
    else if kind == OPEN_BRACE then Some OpenBrace
    else if kind == CLOSE_BRACE then Some CloseBrace
    else if kind == OPEN_BRACKET then Some OpenBracket
    else if kind == CLOSE_BRACKET then Some CloseBracket
    else if kind == COMMA then Some Comma
    else if kind == LESS then Some Less
    else if kind == AT_MOST then Some AtMost
    else if kind == GREATER then Some Greater
    else if kind == AT_LEAST then Some AtLeast
    else None

-- The token that a lexeme of this kind stands for. White space and comments stand for none.
unfoldable pub value_of : ℕ → List ℕ → Option Token
value_of kind cs =
    if kind == IRI then Some (Iri (between_ends cs))
    else if kind == NAME then Some (Name (prefix_in cs) (unescaped (local_in cs)))
    else if kind == BLANK then Some (Blank (drop 2 cs))
    else if kind == STR then Some (Str (unescaped (between_ends cs)))
    else if kind == AT then Some (At (drop 1 cs))
    else if kind == WORD then Some (Word cs)
    else if kind == INT then Some (Int cs)
    else if kind == DEC then Some (Dec cs)
    else option_map Sign (sign_of kind)
