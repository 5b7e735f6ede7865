-- Characters cut into lexemes, each the longest that begins at its place. White space and comments are lexemes too.
use Rattle.std.specs.Prelude.{◌≡◌, ℕ, ◌+◌, ◌<◌, ◌≤◌, List, [], ◌∷◌, ◌++◌, length, Option, None, Some}
use Rattle.owl_characters.specs.Utf8.{size}
use Rattle.owl_lexer.specs.declared.fault.LexFault.{LexFault}
use Rattle.owl_lexer.specs.declared.fault.LexFault.TheVariants.{BadToken, BadUtf8}

-- a kind of lexeme, its characters, and the byte where it begins
pub record Lexeme : Type 0 where
  pub kind : ℕ
  pub spelling : List ℕ
  pub at : ℕ

-- This lexeme stands in front of the rest, and no longer one begins there.
pub record Stands (grammar : ℕ → List ℕ → Type 0) (kind : ℕ) (spelling rest : List ℕ) : Type 0 where
  pub spelled : grammar kind spelling
  pub some : 0 < length spelling
  pub longest : (other : ℕ) (longer more : List ℕ) → grammar other longer → spelling ++ rest ≡ longer ++ more → length longer ≤ length spelling

-- no lexeme begins these characters
abbrev pub BeginsNone : (ℕ → List ℕ → Type 0) → List ℕ → Type 0
BeginsNone grammar cs =
    (kind : ℕ) (spelling more : List ℕ) → grammar kind spelling → 0 < length spelling → cs ≡ spelling ++ more → ⊥

-- No lexeme comes any more: the end, a byte at which no character begins, or a character at which no lexeme begins. A
-- fault has the place of that byte.
abbrev pub Stops : (ℕ → List ℕ → Type 0) → ℕ → List ℕ → List ℕ → Option LexFault → Type 0
Stops grammar place [] [] ending = ending ≡ None
Stops grammar place [] (b ∷ tail) ending = ending ≡ Some (BadUtf8 place)
Stops grammar place (c ∷ cs) tail ending = BeginsNone grammar (c ∷ cs) × (ending ≡ Some (BadToken place))

-- The lexeme stands first, at this byte, and the rest behind it.
pub record CutsFirst (grammar : ℕ → List ℕ → Type 0) (place : ℕ) (cs : List ℕ) (first : Lexeme) (rest : List ℕ) : Type 0 where
  pub parts : cs ≡ first.spelling ++ rest
  pub at : first.at ≡ place
  pub stands : Stands grammar first.kind first.spelling rest

-- The characters, of which the first one stands at this byte, and a tail of bytes behind them that begins no character,
-- are these lexemes, and the fault at which they end, unless they come to the end.
abbrev pub Cuts : (ℕ → List ℕ → Type 0) → ℕ → List ℕ → List ℕ → List Lexeme → Option LexFault → Type 0
Cuts grammar place cs tail [] ending = Stops grammar place cs tail ending
Cuts grammar place cs tail (first ∷ others) ending =
    (rest : List ℕ) × CutsFirst grammar place cs first rest × Cuts grammar (place + size first.spelling) rest tail others ending
