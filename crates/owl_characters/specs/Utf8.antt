-- Bytes as characters in UTF-8.
use Rattle.std.specs.Prelude.{◌≡◌, ◌≢◌, ℕ, ◌+◌, Bool, true, List, [], ◌∷◌, ◌++◌, ◌==◌, if◌then◌else◌}
use Rattle.std.specs.Char.{IsScalar, encode_utf8, len_utf8}
use Rattle.std.specs.Str.{all_scalars, encode_utf8_all}

-- how many bytes these characters take
abbrev pub size : List ℕ → ℕ
size [] = 0
size (c ∷ cs) = len_utf8 c + size cs

-- no character begins these bytes
abbrev pub BeginsNoCharacter : List ℕ → Type 0
BeginsNoCharacter bytes = (c : ℕ) (rest : List ℕ) → IsScalar c → bytes ≢ encode_utf8 c ++ rest

-- The bytes are these characters, and then a tail that begins none. Where they are a whole text, there is no tail.
pub record Decodes (bytes characters tail : List ℕ) : Type 0 where
  pub parts : bytes ≡ encode_utf8_all characters ++ tail
  pub scalars : all_scalars characters ≡ true
  pub stops : BeginsNoCharacter tail

-- a byte order mark
abbrev pub is_mark : ℕ → Bool
is_mark c = c == 0xFEFF

-- the characters without a byte order mark in front, and how many bytes it takes
abbrev pub behind_mark : List ℕ → List ℕ
behind_mark [] = []
behind_mark (c ∷ cs) = if is_mark c then cs else c ∷ cs

abbrev pub mark_size : List ℕ → ℕ
mark_size [] = 0
mark_size (c ∷ cs) = if is_mark c then 3 else 0
