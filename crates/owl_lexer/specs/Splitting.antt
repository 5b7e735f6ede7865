-- Bytes as tokens of a language, each the longest that begins at its place, with white space and comments between them.
-- `spells` says which characters are written for a token.
use Rattle.std.specs.Prelude.{◌≡◌, ◌⊎◌, ℕ, ◌+◌, ◌≤◌, Bool, true, false, List, [], ◌∷◌, ◌++◌, length, codes, Option, None, Some}
use Rattle.owl_characters.specs.Iri.{is_among}
use Rattle.owl_characters.specs.Utf8.{Decodes, behind_mark, mark_size, size}
use Rattle.owl_lexer.specs.declared.fault.LexFault.{LexFault}
use Rattle.owl_lexer.specs.declared.fault.LexFault.TheVariants.{BadToken, BadUtf8}
use Rattle.owl_lexer.specs.declared.placed.Placed.{Placed}

-- line feed and carriage return
abbrev pub is_line_end : ℕ → Bool
is_line_end c = is_among (10 ∷ 13 ∷ []) c

-- space, tab, line feed and carriage return
abbrev pub is_space : ℕ → Bool
is_space c = is_among (32 ∷ 9 ∷ 10 ∷ 13 ∷ []) c

abbrev pub is_comment_start : ℕ → Bool
is_comment_start c = is_among (codes "#") c

-- no longer token begins where this spelling does, when rest follows it
abbrev pub IsLongest : {T : Type 0} → (T → List ℕ → Type 0) → List ℕ → List ℕ → Type 0
IsLongest {T} spells spelling rest =
    (other : T) (longer more : List ℕ) → spells other longer → spelling ++ rest ≡ longer ++ more → length longer ≤ length spelling

abbrev pub BeginsNoToken : {T : Type 0} → (T → List ℕ → Type 0) → List ℕ → Type 0
BeginsNoToken {T} spells cs = (token : T) (spelling more : List ℕ) → spells token spelling → cs ≡ spelling ++ more → ⊥

-- White space and comments, before the rest. A comment goes on to before a line end, or to the end of the characters.
abbrev mutual
  pub IsGap : List ℕ → List ℕ → Type 0
  IsGap [] rest = Unit {0}
  IsGap (c ∷ cs) rest = ((is_space c ≡ true) × IsGap cs rest) ⊎ ((is_comment_start c ≡ true) × IsComment cs rest)

  pub IsComment : List ℕ → List ℕ → Type 0
  IsComment [] rest = rest ≡ []
  IsComment (c ∷ cs) rest = ((is_line_end c ≡ true) × IsGap cs rest) ⊎ ((is_line_end c ≡ false) × IsComment cs rest)

-- The characters, of which the first one stands at this byte, begin with a gap, this token and then the rest, which
-- stands at the byte next.
pub record BeginsToken {T : Type 0} (spells : T → List ℕ → Type 0) (place : ℕ) (cs : List ℕ) (first : Placed T) (next : ℕ) (rest : List ℕ) : Type 0 where
  pub gap : List ℕ
  pub spelling : List ℕ
  pub parts : cs ≡ gap ++ (spelling ++ rest)
  pub is_gap : IsGap gap (spelling ++ rest)
  pub at : first.at ≡ place + size gap
  pub token : spells first.token spelling
  pub longest : IsLongest spells spelling rest
  pub ends : next ≡ first.at + size spelling

-- No token comes any more: the end, a byte at which no character begins, or a character at which neither a token nor a
-- gap begins. A fault has the place of that byte.
abbrev pub Stops : {T : Type 0} → (T → List ℕ → Type 0) → ℕ → List ℕ → List ℕ → Option LexFault → Type 0
Stops spells place [] [] ending = ending ≡ None
Stops spells place [] (b ∷ tail) ending = ending ≡ Some (BadUtf8 place)
Stops spells place (c ∷ cs) tail ending =
    (is_space c ≡ false) × (is_comment_start c ≡ false) × BeginsNoToken spells (c ∷ cs) × (ending ≡ Some (BadToken place))

-- Behind the last token there is a gap, and then no token.
pub record Ends {T : Type 0} (spells : T → List ℕ → Type 0) (place : ℕ) (cs tail : List ℕ) (ending : Option LexFault) : Type 0 where
  pub gap : List ℕ
  pub rest : List ℕ
  pub parts : cs ≡ gap ++ rest
  pub is_gap : IsGap gap rest
  pub stops : Stops spells (place + size gap) rest tail ending

-- The characters, of which the first one stands at this byte, and a tail behind them that begins no character, are these
-- tokens, with gaps between them, and the fault at which they end, unless they come to the end.
abbrev pub SplitsFrom : {T : Type 0} → (T → List ℕ → Type 0) → ℕ → List ℕ → List ℕ → List (Placed T) → Option LexFault → Type 0
SplitsFrom spells place cs tail [] ending = Ends spells place cs tail ending
SplitsFrom spells place cs tail (first ∷ others) ending =
    (next : ℕ) × (rest : List ℕ) × BeginsToken spells place cs first next rest × SplitsFrom spells next rest tail others ending

-- The bytes, of which the first one stands at this place, are these tokens, up to their end or to a fault.
pub record SplitsAt {T : Type 0} (spells : T → List ℕ → Type 0) (place : ℕ) (bytes : List ℕ) (tokens : List (Placed T)) (ending : Option LexFault) : Type 0 where
  pub characters : List ℕ
  pub tail : List ℕ
  pub decodes : Decodes bytes characters tail
  pub splits : SplitsFrom spells place characters tail tokens ending

-- The bytes of a whole text are these tokens, up to their end or to a fault. A byte order mark in front is passed over.
pub record Splits {T : Type 0} (spells : T → List ℕ → Type 0) (bytes : List ℕ) (tokens : List (Placed T)) (ending : Option LexFault) : Type 0 where
  pub characters : List ℕ
  pub tail : List ℕ
  pub decodes : Decodes bytes characters tail
  pub splits : SplitsFrom spells (mark_size characters) (behind_mark characters) tail tokens ending

-- one of the tokens ends at this byte

abbrev pub OneEndsFrom : {T : Type 0} (spells : T → List ℕ → Type 0) (place : ℕ) (cs tail : List ℕ) (tokens : List (Placed T)) (ending : Option LexFault) → SplitsFrom spells place cs tail tokens ending → ℕ → Type 0
OneEndsFrom spells place cs tail [] ending s end = ⊥
OneEndsFrom spells place cs tail (first ∷ others) ending s end = (s.0 ≡ end) ⊎ OneEndsFrom spells s.0 s.1 tail others ending s.3 end
