-- What Functional-Style Syntax and Manchester Syntax share of their terminals, by the productions of RDF 1.1 Turtle, section
-- 6.5 (numbers in brackets), of the Structural Specification, sections 2.4, 3.7, 5.6.2 and 5.7, and of Manchester Syntax,
-- section 2.1.
use Rattle.std.specs.Prelude.{ℕ, List, [], ◌∷◌, codes}
use Rattle.owl_lexer.specs.Grammars.{CharacterSet, Terminal}
use Rattle.owl_lexer.specs.Grammars.CharacterSet.{inside, outside}
use Rattle.owl_lexer.specs.Patterns.{Pattern}
use Rattle.owl_lexer.specs.Patterns.Pattern.{one, many}
use Rattle.owl_lexer.specs.PatternWords.{◌then◌, ◌or◌, maybe, some}
use Rattle.owl_characters.specs.Names.{base_ranges, part_ranges, start_ranges}
use Rattle.owl_tokens.specs.declared.kinds.TheConstants.{AT, BLANK, CARETS, CLOSE, COMMENT, IRI, NAME, OPEN, SPACE, STR, WORD}

-- each of these characters is a range
abbrev pub each_of : List ℕ → List (ℕ × ℕ)
each_of [] = []
each_of (c ∷ cs) = (c, c) ∷ each_of cs

-- the sets of characters, in the order of the numbers below
abbrev pub shared_sets : List CharacterSet
shared_sets =
    inside (each_of (32 ∷ 9 ∷ 10 ∷ 13 ∷ []))
    ∷ inside (each_of (codes "#"))
    ∷ outside (each_of (10 ∷ 13 ∷ []))
    ∷ inside (each_of (codes "<"))
    ∷ inside (each_of (codes ">"))
    ∷ inside ((0x41, 0x5A) ∷ (0x61, 0x7A) ∷ [])
    ∷ inside ((0x30, 0x39) ∷ [])
    ∷ inside (each_of (codes "+-."))
    ∷ inside (each_of (codes ":"))
    ∷ outside ((0, 32) ∷ each_of (codes "<>\"{}|^`\\"))
    ∷ inside base_ranges
    ∷ inside start_ranges
    ∷ inside part_ranges
    ∷ inside (each_of (codes "."))
    ∷ inside (each_of (codes "%"))
    ∷ inside ((0x30, 0x39) ∷ (0x41, 0x46) ∷ (0x61, 0x66) ∷ [])
    ∷ inside (each_of (codes "\\"))
    ∷ inside (each_of (codes "_~.-!$&'()*+,;=/?#@%"))
    ∷ inside (each_of (codes "\""))
    ∷ outside (each_of (codes "\"\\"))
    ∷ inside (each_of (codes "\"\\"))
    ∷ inside (each_of (codes "@"))
    ∷ inside (each_of (codes "-"))
    ∷ inside (each_of (codes "("))
    ∷ inside (each_of (codes ")"))
    ∷ inside (each_of (codes "^"))
    ∷ inside (each_of (codes "_"))
    ∷ []

-- space, tab, line feed and carriage return
abbrev pub white_character : Pattern
white_character = one 0

abbrev pub number_sign : Pattern
number_sign = one 1

-- no line feed and no carriage return
abbrev pub comment_character : Pattern
comment_character = one 2

abbrev pub less : Pattern
less = one 3

abbrev pub greater : Pattern
greater = one 4

-- [a-zA-Z]
abbrev pub letter : Pattern
letter = one 5

-- [0-9]
abbrev pub digit : Pattern
digit = one 6

-- '+' | '-' | '.'
abbrev pub scheme_mark : Pattern
scheme_mark = one 7

abbrev pub colon : Pattern
colon = one 8

-- [^#x00-#x20<>"{}|^`\]
abbrev pub iri_character : Pattern
iri_character = one 9

-- [163s] PN_CHARS_BASE
abbrev pub base : Pattern
base = one 10

-- what PN_CHARS_U has beside PN_CHARS_BASE
abbrev pub more_start : Pattern
more_start = one 11

-- what PN_CHARS has beside PN_CHARS_U
abbrev pub more_part : Pattern
more_part = one 12

abbrev pub dot : Pattern
dot = one 13

abbrev pub percent_sign : Pattern
percent_sign = one 14

-- [171s] HEX ::= [0-9] | [A-F] | [a-f]
abbrev pub hexadecimal : Pattern
hexadecimal = one 15

abbrev pub backslash : Pattern
backslash = one 16

-- what may stand behind the backslash of a local part
abbrev pub escapable : Pattern
escapable = one 17

abbrev pub quote : Pattern
quote = one 18

-- what stands for itself in a string
abbrev pub string_character : Pattern
string_character = one 19

-- what stands behind a backslash in a string
abbrev pub string_escaped : Pattern
string_escaped = one 20

abbrev pub at_sign : Pattern
at_sign = one 21

abbrev pub hyphen : Pattern
hyphen = one 22

abbrev pub open_mark : Pattern
open_mark = one 23

abbrev pub close_mark : Pattern
close_mark = one 24

abbrev pub caret : Pattern
caret = one 25

abbrev pub underscore : Pattern
underscore = one 26

-- Turtle [164s] PN_CHARS_U ::= PN_CHARS_BASE | '_'
abbrev pub start : Pattern
start = base or more_start

-- Turtle [166s] PN_CHARS ::= PN_CHARS_U | '-' | [0-9] | #x00B7 | [#x0300-#x036F] | [#x203F-#x2040]
abbrev pub part : Pattern
part = start or more_part

-- ((PN_CHARS | '.')* PN_CHARS)?, as names end
abbrev pub name_end : Pattern
name_end = maybe (many (part or dot) then part)

-- Turtle [167s] PN_PREFIX ::= PN_CHARS_BASE ((PN_CHARS | '.')* PN_CHARS)?
abbrev pub prefix : Pattern
prefix = base then name_end

-- Turtle [170s] PERCENT ::= '%' HEX HEX
abbrev pub percent : Pattern
percent = percent_sign then hexadecimal then hexadecimal

-- Turtle [172s] PN_LOCAL_ESC ::= '\' ('_' | '~' | '.' | '-' | '!' | '$' | '&' | "'" | '(' | ')' | '*' | '+' | ',' | ';' | '='
--               | '/' | '?' | '#' | '@' | '%')
abbrev pub local_escape : Pattern
local_escape = backslash then escapable

-- Turtle [169s] PLX ::= PERCENT | PN_LOCAL_ESC
abbrev pub local_piece : Pattern
local_piece = percent or local_escape

-- Turtle [168s] PN_LOCAL ::= (PN_CHARS_U | ':' | [0-9] | PLX) ((PN_CHARS | '.' | ':' | PLX)* (PN_CHARS | ':' | PLX))?
abbrev pub local : Pattern
local =
    (start or colon or digit or local_piece)
    then maybe (many (part or dot or colon or local_piece) then (part or colon or local_piece))

-- Turtle [139s] PNAME_NS ::= PN_PREFIX? ':'
abbrev pub prefix_name : Pattern
prefix_name = maybe prefix then colon

-- Turtle [140s] PNAME_LN ::= PNAME_NS PN_LOCAL. Structural Specification, section 2.4: prefixName is PNAME_NS,
-- abbreviatedIRI is PNAME_LN
abbrev pub abbreviated : Pattern
abbreviated = prefix_name then maybe local

-- Structural Specification, section 2.4: fullIRI is an IRI as RFC 3987 defines it, of which the scheme and the characters
-- behind it are looked at, between '<' and '>'
abbrev pub full_iri : Pattern
full_iri = less then letter then many (letter or digit or scheme_mark) then colon then many iri_character then greater

-- Structural Specification, section 5.6.2: nodeID is BLANK_NODE_LABEL. Turtle [141s] BLANK_NODE_LABEL ::=
-- '_:' (PN_CHARS_U | [0-9]) ((PN_CHARS | '.')* PN_CHARS)?
abbrev pub node_id : Pattern
node_id = underscore then colon then (start or digit) then name_end

-- Structural Specification, section 5.7: quotedString, in which '"' and '\' stand behind '\' alone, between '"' and '"'
abbrev pub quoted_string : Pattern
quoted_string = quote then many (string_character or (backslash then string_escaped)) then quote

-- Structural Specification, section 5.7: languageTag. Turtle [144s] LANGTAG ::= '@' [a-zA-Z]+ ('-' [a-zA-Z0-9]+)*
abbrev pub language_tag : Pattern
language_tag = at_sign then some letter then many (hyphen then some (letter or digit))

-- a keyword, or a simpleIRI of Manchester Syntax (section 2.1): PN_CHARS_U ((PN_CHARS | '.')* PN_CHARS)?
abbrev pub word : Pattern
word = start then name_end

-- '^^'
abbrev pub carets : Pattern
carets = caret then caret

-- Structural Specification, section 3.7: white space
abbrev pub white_space : Pattern
white_space = some white_character

-- Structural Specification, section 3.7: a comment, which goes on to before a line end
abbrev pub comment : Pattern
comment = number_sign then many comment_character

abbrev pub shared_terminals : List Terminal
shared_terminals =
    record { kind = SPACE; pattern = white_space }
    ∷ record { kind = COMMENT; pattern = comment }
    ∷ record { kind = IRI; pattern = full_iri }
    ∷ record { kind = NAME; pattern = abbreviated }
    ∷ record { kind = BLANK; pattern = node_id }
    ∷ record { kind = STR; pattern = quoted_string }
    ∷ record { kind = AT; pattern = language_tag }
    ∷ record { kind = WORD; pattern = word }
    ∷ record { kind = OPEN; pattern = open_mark }
    ∷ record { kind = CLOSE; pattern = close_mark }
    ∷ record { kind = CARETS; pattern = carets }
    ∷ []
