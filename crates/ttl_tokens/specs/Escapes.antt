-- Escape sequences, and the characters for which they stand (RDF 1.1 Turtle, section 6.4).
use Rattle.std.specs.Prelude.{ℕ, zero, suc, ◌==◌, Bool, nat_lt, ◌||◌, List, [], ◌∷◌, take, map, Option, None, Some, if◌then◌else◌}
use Rattle.std.specs.Char.{digit_value, is_digit}
use Rattle.std.specs.Int.{is_in_range}
use Rattle.std.specs.Int.Digits.{number_from_digits}

-- the value of a hexadecimal digit
abbrev pub hex_value : ℕ → ℕ
hex_value c = if is_digit c 16 then digit_value c else 0

-- the number that hexadecimal digits write
abbrev pub hex_number : List ℕ → ℕ
hex_number digits = number_from_digits 16 (map hex_value digits)

-- a code point that is a character, and no surrogate
abbrev pub is_character : ℕ → Bool
is_character point = nat_lt point 0xD800 || is_in_range 0xE000 0x10FFFF point

abbrev pub character_at : ℕ → Option ℕ
character_at point = if is_character point then Some point else None

-- string escapes: `\t`, `\b`, `\n`, `\r` and `\f`; `\"`, `\'` and `\\` stand for what is behind the backslash
abbrev pub string_escape : ℕ → ℕ
string_escape c =
    if c == 0x74 then 0x09
    else if c == 0x62 then 0x08
    else if c == 0x6E then 0x0A
    else if c == 0x72 then 0x0D
    else if c == 0x66 then 0x0C
    else c

-- The character for which an escape stands, by what is behind its backslash: numeric escapes are `\u` with four
-- hexadecimal digits of a code point and `\U` with eight.
abbrev pub escaped : List ℕ → Option ℕ
escaped [] = None
escaped (c ∷ cs) =
    if c == 0x75 then character_at (hex_number (take 4 cs))
    else if c == 0x55 then character_at (hex_number (take 8 cs))
    else Some (string_escape c)

-- how many characters of it are behind the backslash
abbrev pub escape_length : List ℕ → ℕ
escape_length [] = 0
escape_length (c ∷ cs) = if c == 0x75 then 5 else if c == 0x55 then 9 else 1

-- the character for which the first character stands, alone or as the backslash of an escape
abbrev pub first_character : ℕ → List ℕ → Option ℕ
first_character c cs = if c == 0x5C then escaped cs else Some c

-- how many characters behind it belong to it
abbrev pub length_behind : ℕ → List ℕ → ℕ
length_behind c cs = if c == 0x5C then escape_length cs else 0

abbrev pub in_front : Option ℕ → Option (List ℕ) → Option (List ℕ)
in_front (Some c) (Some cs) = Some (c ∷ cs)
in_front first others = None

-- what stands behind the first characters, as many as passed, which belong to an escape
abbrev pub unescaped_behind : ℕ → List ℕ → Option (List ℕ)
unescaped_behind passed [] = Some []
unescaped_behind zero (c ∷ cs) = in_front (first_character c cs) (unescaped_behind (length_behind c cs) cs)
unescaped_behind (suc passed) (c ∷ cs) = unescaped_behind passed cs

-- the characters, with those for which escapes stand in their place, or nothing where an escape stands for none
abbrev pub unescaped : List ℕ → Option (List ℕ)
unescaped cs = unescaped_behind 0 cs
