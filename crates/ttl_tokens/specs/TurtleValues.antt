-- What lexemes of Turtle stand for (RDF 1.1 Turtle, sections 2.4, 2.5 and 6.4).
use Rattle.std.specs.Prelude.{◌≡◌, ℕ, ◌-◌, ◌*◌, ◌==◌, Bool, not, ◌||◌, List, [], length, take, drop, filter, Option, None, Some, unwrap_or, if◌then◌else◌}
use Rattle.std.specs.List.{after_first, before_first}
use Rattle.ttl_tokens.specs.Escapes.{unescaped}
use Rattle.ttl_tokens.specs.declared.kinds.TheConstants.{IRIREF, PREFIXED_NAME, BLANK_NODE_LABEL, LANGTAG, INTEGER, DECIMAL, DOUBLE, STRING_LITERAL_QUOTE, STRING_LITERAL_SINGLE_QUOTE, STRING_LITERAL_LONG_QUOTE, STRING_LITERAL_LONG_SINGLE_QUOTE, A_WORD, TRUE_WORD, FALSE_WORD, PREFIX_WORD, BASE_WORD, DOT, SEMICOLON, COMMA, OPEN_BRACKET, CLOSE_BRACKET, OPEN_PARENTHESIS, CLOSE_PARENTHESIS, CIRCUMFLEXES}
use Rattle.ttl_tokens.specs.declared.token.Symbol.{Symbol as Word}
use Rattle.ttl_tokens.specs.declared.token.Symbol.TheVariants.{A, True, False, Prefix, Base, Dot, Semicolon, Comma, OpenBracket, CloseBracket, OpenParenthesis, CloseParenthesis, Carets}
use Rattle.ttl_tokens.specs.declared.token.Token.{Token}
use Rattle.ttl_tokens.specs.declared.token.Token.TheVariants.{Iri, Name, Label, Str, At, Integer, Decimal, Double, Symbol}

abbrev pub is_colon : ℕ → Bool
is_colon c = c == 0x3A

abbrev pub is_backslash : ℕ → Bool
is_backslash c = c == 0x5C

-- without as many characters in front, and as many behind
abbrev pub inside : ℕ → List ℕ → List ℕ
inside count cs = take (length cs - 2 * count) (drop count cs)

-- a string: no escape of one stands for nothing, as `IsUndone` tells
abbrev pub string_text : List ℕ → List ℕ
string_text cs = unwrap_or (unescaped cs) []

-- the name of the prefix
abbrev pub prefix_text : List ℕ → List ℕ
prefix_text cs = before_first is_colon cs

-- the local part: behind the backslash of a reserved character escape is the character for which it stands
abbrev pub local_text : List ℕ → List ℕ
local_text cs = filter (λ c. not (is_backslash c)) (after_first is_colon cs)

-- the word or sign of a kind
abbrev pub symbol_of : ℕ → Option Word
symbol_of kind =
    if kind == A_WORD then Some A
    else if kind == TRUE_WORD then Some True
    else if kind == FALSE_WORD then Some False
    else if kind == PREFIX_WORD then Some Prefix
    else if kind == BASE_WORD then Some Base
    else if kind == DOT then Some Dot
    else if kind == SEMICOLON then Some Semicolon
    else if kind == COMMA then Some Comma
    else if kind == OPEN_BRACKET then Some OpenBracket
    else if kind == CLOSE_BRACKET then Some CloseBracket
    else if kind == OPEN_PARENTHESIS then Some OpenParenthesis
    else if kind == CLOSE_PARENTHESIS then Some CloseParenthesis
    else if kind == CIRCUMFLEXES then Some Carets
    else None

abbrev pub symbol_token : Option Word → Option Token
symbol_token None = None
symbol_token (Some symbol) = Some (Symbol symbol)

-- the token of a lexeme of this kind, if it stands for one: white space and comments do not
abbrev pub token_of : ℕ → List ℕ → Option Token
token_of kind cs =
    if kind == IRIREF then Some (Iri (unescaped (inside 1 cs)))
    else if kind == PREFIXED_NAME then Some (Name (prefix_text cs) (local_text cs))
    else if kind == BLANK_NODE_LABEL then Some (Label (drop 2 cs))
    else if kind == LANGTAG then Some (At (drop 1 cs))
    else if kind == INTEGER then Some (Integer cs)
    else if kind == DECIMAL then Some (Decimal cs)
    else if kind == DOUBLE then Some (Double cs)
    else if (kind == STRING_LITERAL_QUOTE) || (kind == STRING_LITERAL_SINGLE_QUOTE) then Some (Str (string_text (inside 1 cs)))
    else if (kind == STRING_LITERAL_LONG_QUOTE) || (kind == STRING_LITERAL_LONG_SINGLE_QUOTE) then Some (Str (string_text (inside 3 cs)))
    else symbol_token (symbol_of kind)

-- the string between so many quotes is undone to its text
abbrev pub IsUndone : ℕ → List ℕ → Type 0
IsUndone count cs = unescaped (inside count cs) ≡ Some (string_text (inside count cs))
