-- The terminals of RDF 1.1 Turtle (section 6.5), by the W3C's names and numbers. White space and
-- comments are lexemes too.
--
-- Three things differ. An escape of a code point that is no character is no part of a string. A
-- prefixed name is one lexeme, and so is what stands behind `@`, a language tag or the word of a
-- directive. There is no lexeme ANON, since a comment may stand between its brackets.
use Prim.Native.String.{String}
use Rattle.std.specs.Prelude.{ℕ, ◌+◌, ◌==◌, nat_lt, Bool, true, false, ◌&&◌, List, [], ◌∷◌, ◌++◌, map, codes}
use Rattle.std.specs.Cmp.Lexicographic.{pointwise}
use Rattle.std.specs.List.{position_or_len}
use Rattle.owl_characters.specs.Names.{base_ranges}
use Rattle.owl_lexer.specs.Grammars.{CharacterSet, Grammar, Terminal}
use Rattle.owl_lexer.specs.Grammars.CharacterSet.{inside, outside}
use Rattle.owl_lexer.specs.Patterns.{Pattern}
use Rattle.owl_lexer.specs.Patterns.Pattern.{empty, one, both, either, many}
use Rattle.owl_lexer.specs.PatternWords.{◌then◌, ◌or◌, maybe, some}
use Rattle.ttl_tokens.specs.declared.kinds.TheConstants.{WHITE_SPACE, COMMENT, IRIREF, PREFIXED_NAME, BLANK_NODE_LABEL, LANGTAG, INTEGER, DECIMAL, DOUBLE, STRING_LITERAL_QUOTE, STRING_LITERAL_SINGLE_QUOTE, STRING_LITERAL_LONG_QUOTE, STRING_LITERAL_LONG_SINGLE_QUOTE, A_WORD, TRUE_WORD, FALSE_WORD, PREFIX_WORD, BASE_WORD, DOT, SEMICOLON, COMMA, OPEN_BRACKET, CLOSE_BRACKET, OPEN_PARENTHESIS, CLOSE_PARENTHESIS, CIRCUMFLEXES}

-- characters

-- what stands between the W3C's brackets: characters, and ranges of them with a hyphen inside
abbrev ranges : List ℕ → List (ℕ × ℕ)
ranges [] = []
ranges (a ∷ b ∷ c ∷ cs) =
    elim (b == 0x2D) [ true ↦ (a, c) ∷ ranges cs | false ↦ (a, a) ∷ ranges (b ∷ c ∷ cs) ]
ranges (c ∷ cs) = (c, c) ∷ ranges cs

-- `[..]`
abbrev these : String → CharacterSet
these cs = inside (ranges (codes cs))

-- `[^..]`
abbrev all_but : String → CharacterSet
all_but cs = outside (ranges (codes cs))

abbrev only : ℕ → CharacterSet
only c = inside ((c, c) ∷ [])

-- a capital letter, and the small one
abbrev either_case : ℕ → CharacterSet
either_case c = inside ((c + 32, c + 32) ∷ (c, c) ∷ [])

-- the middle dot, combining marks and ties of [166s]
abbrev marks : CharacterSet
marks = inside ((0xB7, 0xB7) ∷ (0x300, 0x36F) ∷ (0x203F, 0x2040) ∷ [])

-- All sets of the grammar. A pattern has the number of a set, which is its place here.
abbrev turtle_sets : List CharacterSet
turtle_sets =
    map only (codes ".:_-\\\"'#@%^<>,;[]()")
    ++ these "+-" ∷ these "0-9" ∷ these "a-zA-Z" ∷ these " \t\r\n" ∷ all_but "\n\r"
    ∷ inside base_ranges ∷ these "0-9A-Fa-f" ∷ these "0-9A-CE-Fa-ce-f" ∷ these "Dd"
    ∷ these "1-9A-Fa-f" ∷ these "0" ∷ these "1" ∷ these "0-7" ∷ marks
    ∷ these "_~.!$&'()*+,;=/?#@%-" ∷ these "tbnrf\"'\\" ∷ all_but "\0- <>\"{}|^`\\"
    ∷ all_but "\"\\\n\r" ∷ all_but "'\\\n\r" ∷ all_but "\"\\" ∷ all_but "'\\"
    ∷ map only (codes "aeflrstuU") ++ map either_case (codes "ABEFIPRSX")

abbrev is_same : CharacterSet → CharacterSet → Bool
is_same (inside xs) (inside ys) = pointwise (λ x y. (x.0 == y.0) && (x.1 == y.1)) xs ys
is_same (outside xs) (outside ys) = pointwise (λ x y. (x.0 == y.0) && (x.1 == y.1)) xs ys
is_same set other = false

-- a character of the set
abbrev one_of : CharacterSet → Pattern
one_of set = one (position_or_len (is_same set) turtle_sets)

abbrev any_of : String → Pattern
any_of cs = one_of (these cs)

abbrev none_of : String → Pattern
none_of cs = one_of (all_but cs)

-- a character of each, one behind another
abbrev in_turn : List CharacterSet → Pattern
in_turn [] = empty
in_turn (set ∷ []) = one_of set
in_turn (set ∷ sets) = one_of set then in_turn sets

abbrev text : String → Pattern
text cs = in_turn (map only (codes cs))

-- capital letters, each in either case
abbrev any_case : String → Pattern
any_case cs = in_turn (map either_case (codes cs))

-- parts of lexemes

abbrev digit : Pattern
digit = any_of "0-9"

-- [171s]
abbrev hex : Pattern
hex = any_of "0-9A-Fa-f"

-- [163s]
abbrev pn_chars_base : Pattern
pn_chars_base = one_of (inside base_ranges)

-- [164s]
abbrev pn_chars_u : Pattern
pn_chars_u = pn_chars_base or text "_"

-- [166s]
abbrev pn_chars : Pattern
pn_chars = pn_chars_u or text "-" or digit or one_of marks

-- [167s]
abbrev pn_prefix : Pattern
pn_prefix = pn_chars_base then maybe (many (pn_chars or text ".") then pn_chars)

-- [169s], with [170s] PERCENT and [172s] PN_LOCAL_ESC
abbrev plx : Pattern
plx = (text "%" then hex then hex) or (text "\\" then any_of "_~.!$&'()*+,;=/?#@%-")

-- [168s]
abbrev pn_local : Pattern
pn_local =
    (pn_chars_u or text ":" or digit or plx)
    then maybe (many (pn_chars or text "." or text ":" or plx) then (pn_chars or text ":" or plx))

-- [139s]
abbrev pub pname_ns : Pattern
pname_ns = maybe pn_prefix then text ":"

-- [140s]
abbrev pub pname_ln : Pattern
pname_ln = pname_ns then pn_local

-- [141s]
abbrev pub blank_node_label : Pattern
blank_node_label =
    text "_:" then (pn_chars_u or digit) then maybe (many (pn_chars or text ".") then pn_chars)

-- [144s]; `@prefix` and `@base` are among them
abbrev pub langtag : Pattern
langtag =
    text "@" then some (any_of "a-zA-Z") then many (text "-" then some (any_of "a-zA-Z" or digit))

-- [154s]
abbrev exponent : Pattern
exponent = any_of "eE" then maybe (any_of "+-") then some digit

-- [26]
abbrev pub uchar : Pattern
uchar =
    (text "\\u" then hex then hex then hex then hex)
    or (text "\\U" then hex then hex then hex then hex then hex then hex then hex then hex)

-- four digits of a code point that is a character: not D800 to DFFF
abbrev pub character_digits : Pattern
character_digits =
    (any_of "0-9A-CE-Fa-ce-f" then hex then hex then hex)
    or (any_of "Dd" then any_of "0-7" then hex then hex)

-- eight digits of a code point that is a character: as before, or 10000 to 10FFFF
abbrev pub long_character_digits : Pattern
long_character_digits =
    (text "0000" then character_digits)
    or (text "00" then ((text "0" then any_of "1-9A-Fa-f") or text "10")
    then hex then hex then hex then hex)

-- [159s] ECHAR, or a UCHAR of a code point that is a character
abbrev pub string_escape : Pattern
string_escape =
    (text "\\" then any_of "tbnrf\"'\\")
    or (text "\\u" then character_digits)
    or (text "\\U" then long_character_digits)

-- lexemes

infix 4 ◌is◌
abbrev ◌is◌ : ℕ → Pattern → Terminal
kind is pattern = record { kind = kind; pattern = pattern }

unfoldable pub turtle_grammar : Grammar
turtle_grammar = record {
  sets = turtle_sets;
  terminals =
      -- [161s], and section 6.2
      (WHITE_SPACE is some (any_of " \t\r\n"))
      ∷ (COMMENT is text "#" then many (none_of "\n\r"))
      -- [18]; `\0- ` is U+0000 to the space
      ∷ (IRIREF is text "<" then many (none_of "\0- <>\"{}|^`\\" or uchar) then text ">")
      -- [136s]
      ∷ (PREFIXED_NAME is pname_ln or pname_ns)
      ∷ (BLANK_NODE_LABEL is blank_node_label)
      ∷ (LANGTAG is langtag)
      -- [19] to [21]
      ∷ (INTEGER is maybe (any_of "+-") then some digit)
      ∷ (DECIMAL is maybe (any_of "+-") then many digit then text "." then some digit)
      ∷ (DOUBLE is maybe (any_of "+-")
      then ((some digit then text "." then many digit then exponent)
      or (text "." then some digit then exponent) or (some digit then exponent)))
      -- [22] to [25]
      ∷ (STRING_LITERAL_QUOTE is text "\""
      then many (none_of "\"\\\n\r" or string_escape) then text "\"")
      ∷ (STRING_LITERAL_SINGLE_QUOTE is text "'"
      then many (none_of "'\\\n\r" or string_escape) then text "'")
      ∷ (STRING_LITERAL_LONG_QUOTE is text "\"\"\""
      then many (maybe (text "\"" or text "\"\"") then (none_of "\"\\" or string_escape))
      then text "\"\"\"")
      ∷ (STRING_LITERAL_LONG_SINGLE_QUOTE is text "'''"
      then many (maybe (text "'" or text "''") then (none_of "'\\" or string_escape))
      then text "'''")
      ∷ (A_WORD is text "a")
      -- [133s]
      ∷ (TRUE_WORD is text "true")
      ∷ (FALSE_WORD is text "false")
      -- [6s] and [5s]
      ∷ (PREFIX_WORD is any_case "PREFIX")
      ∷ (BASE_WORD is any_case "BASE")
      ∷ (DOT is text ".")
      ∷ (SEMICOLON is text ";")
      ∷ (COMMA is text ",")
      ∷ (OPEN_BRACKET is text "[")
      ∷ (CLOSE_BRACKET is text "]")
      ∷ (OPEN_PARENTHESIS is text "(")
      ∷ (CLOSE_PARENTHESIS is text ")")
      ∷ (CIRCUMFLEXES is text "^^")
      ∷ [];
}

-- Each set that a pattern names is one of the first, as many as told (`sets_are_listed`).
abbrev pub are_listed : ℕ → Pattern → Bool
are_listed count empty = true
are_listed count (one set) = nat_lt set count
are_listed count (both p q) = are_listed count p && are_listed count q
are_listed count (either p q) = are_listed count p && are_listed count q
are_listed count (many p) = are_listed count p
