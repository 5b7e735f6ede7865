-- What a lexer has in hand, and what can still come of it.
use Rattle.std.specs.Prelude.{◌≡◌, ℕ, ◌+◌, Bool, true, false, List, [], ◌∷◌, ◌++◌, length, map, take, Option, None, Some}
use Rattle.std.specs.Str.{encode_utf8_all}
use Rattle.owl_characters.specs.Utf8.{behind_mark, mark_size, size}
use Rattle.owl_lexer.specs.Splitting.{OneEndsFrom, Splits, SplitsAt, is_space}
use Rattle.owl_lexer.specs.Words.{HoldsOne}
use Rattle.owl_lexer.specs.declared.fault.LexFault.{LexFault}
use Rattle.owl_lexer.specs.declared.placed.Placed.{Placed}

-- The bytes of a token, a gap or a character that is begun, the place of the first of them, and whether nothing but these
-- was fed, so that a byte order mark may begin here.
pub record Begun : Type 0 where
  pub at : ℕ
  pub held : List ℕ
  pub fresh : Bool

-- nothing was fed
abbrev pub nothing_fed : Begun
nothing_fed = record { at = 0; held = []; fresh = true }

-- nothing is begun behind what was fed, and the next byte stands at this place
abbrev pub nothing_begun : ℕ → Begun
nothing_begun place = record { at = place; held = []; fresh = false }

-- the byte behind what is begun: how many were fed
abbrev pub end_of : Begun → ℕ
end_of begun = begun.at + length begun.held

abbrev pub SplitsBehind : {T : Type 0} → (T → List ℕ → Type 0) → Bool → ℕ → List ℕ → List (Placed T) → Option LexFault → Type 0
SplitsBehind spells true place bytes tokens ending = Splits spells bytes tokens ending
SplitsBehind spells false place bytes tokens ending = SplitsAt spells place bytes tokens ending

-- When these bytes follow, and then the end, these tokens come of what is begun, up to the end or to a fault.
abbrev pub Continues : {T : Type 0} → (T → List ℕ → Type 0) → Begun → List ℕ → List (Placed T) → Option LexFault → Type 0
Continues spells begun more tokens ending = SplitsBehind spells begun.fresh begun.at (begun.held ++ more) tokens ending

-- These bytes make new of old, and give these tokens: whatever follows, the tokens that come of old, the bytes and
-- what follows are these, and then those that come of new and what follows.
pub record Gives {T : Type 0} (spells : T → List ℕ → Type 0) (old : Begun) (bytes : List ℕ) (given : List (Placed T)) (new : Begun) : Type 0 where
  pub all : (more : List ℕ) (tokens : List (Placed T)) (ending : Option LexFault) → Continues spells old (bytes ++ more) tokens ending → (rest : List (Placed T)) × (tokens ≡ given ++ rest) × Continues spells new more rest ending
  pub only : (more : List ℕ) (rest : List (Placed T)) (ending : Option LexFault) → Continues spells new more rest ending → Continues spells old (bytes ++ more) (given ++ rest) ending

-- The same, where the tokens that are given are added to a list.
pub record Adds {T : Type 0} (spells : T → List ℕ → Type 0) (old : Begun) (bytes : List ℕ) (before after : List (Placed T)) (new : Begun) : Type 0 where
  pub given : List (Placed T)
  pub added : after ≡ before ++ given
  pub gives : Gives spells old bytes given new

-- Some of the next tokens were added to a list, and perhaps not all that the bytes give.
pub record AddsSome {T : Type 0} (spells : T → List ℕ → Type 0) (old : Begun) (bytes : List ℕ) (before after : List (Placed T)) : Type 0 where
  pub given : List (Placed T)
  pub added : after ≡ before ++ given
  pub next : (more : List ℕ) (tokens : List (Placed T)) (ending : Option LexFault) → Continues spells old (bytes ++ more) tokens ending → (rest : List (Placed T)) × (tokens ≡ given ++ rest)

-- Whatever follows these bytes, the tokens end at this fault; those before it were added to a list.
pub record EndsAt {T : Type 0} (spells : T → List ℕ → Type 0) (old : Begun) (bytes : List ℕ) (before after : List (Placed T)) (fault : LexFault) : Type 0 where
  pub given : List (Placed T)
  pub added : after ≡ before ++ given
  pub ends : (more : List ℕ) → Continues spells old (bytes ++ more) given (Some fault)

-- Where nothing follows, the tokens that come of what is begun were added to a list, up to the end or to a fault.
pub record AddsLast {T : Type 0} (spells : T → List ℕ → Type 0) (old : Begun) (before after : List (Placed T)) (ending : Option LexFault) : Type 0 where
  pub given : List (Placed T)
  pub added : after ≡ before ++ given
  pub continues : Continues spells old [] given ending

-- Some tokens were added to a list, and new is left: where nothing follows, they stand before what comes of new, and that
-- comes of old.
pub record AddsToEnd {T : Type 0} (spells : T → List ℕ → Type 0) (old : Begun) (before after : List (Placed T)) (new : Begun) : Type 0 where
  pub given : List (Placed T)
  pub added : after ≡ before ++ given
  pub gives : (rest : List (Placed T)) (ending : Option LexFault) → Continues spells new [] rest ending → Continues spells old [] (given ++ rest) ending

-- Where nothing follows, some of the tokens that come of what is begun were added to a list, and perhaps not all.
pub record AddsSomeLast {T : Type 0} (spells : T → List ℕ → Type 0) (old : Begun) (before after : List (Placed T)) : Type 0 where
  pub given : List (Placed T)
  pub added : after ≡ before ++ given
  pub next : (tokens : List (Placed T)) (ending : Option LexFault) → Continues spells old [] tokens ending → (rest : List (Placed T)) × (tokens ≡ given ++ rest)

-- no token that white space follows stands in front of what is begun
abbrev pub HoldsNone : {T : Type 0} → (T → List ℕ → Type 0) → Begun → Type 0
HoldsNone {T} spells begun =
    (token : T) (spelling rest : List ℕ) (c : ℕ) → spells token spelling → is_space c ≡ true → begun.held ≡ encode_utf8_all (spelling ++ c ∷ []) ++ rest → ⊥

-- one of the tokens that come of these bytes ends at this byte
abbrev pub OneEnds : {T : Type 0} (spells : T → List ℕ → Type 0) (fresh : Bool) (place : ℕ) (bytes : List ℕ) (tokens : List (Placed T)) (ending : Option LexFault) → SplitsBehind spells fresh place bytes tokens ending → ℕ → Type 0
OneEnds spells true place bytes tokens ending s end =
    OneEndsFrom spells (mark_size s.characters) (behind_mark s.characters) s.tail tokens ending s.splits end
OneEnds spells false place bytes tokens ending s end = OneEndsFrom spells place s.characters s.tail tokens ending s.splits end

-- Whatever follows, none of the tokens that come of what is begun ends in front of white space that is held, unless one of
-- these words is held.
abbrev pub HoldsNoEnd : {T : Type 0} → (T → List ℕ → Type 0) → List (List ℕ) → Begun → Type 0
HoldsNoEnd {T} spells words begun =
    (HoldsOne (map encode_utf8_all words) begun.held → ⊥) → (more : List ℕ) (tokens : List (Placed T)) (ending : Option LexFault) (continues : Continues spells begun more tokens ending) (front rest : List ℕ) (c : ℕ) →
    begun.held ≡ encode_utf8_all (front ++ c ∷ []) ++ rest → is_space c ≡ true →
    OneEnds spells begun.fresh begun.at (begun.held ++ more) tokens ending continues (begun.at + size front) → ⊥

-- The bytes end with what is begun; where nothing but it was fed, they are it.
pub record EndWith (bytes : List ℕ) (begun : Begun) : Type 0 where
  pub front : List ℕ
  pub parts : bytes ≡ front ++ begun.held
  pub fresh : begun.fresh ≡ true → front ≡ []

-- where what was fed ends with old, it ends with new when these bytes follow
abbrev pub KeepsEnd : Begun → List ℕ → Begun → Type 0
KeepsEnd old piece new = (fed : List ℕ) → EndWith fed old → EndWith (fed ++ piece) new

-- the bytes of a piece that were taken: so many of the first ones, or all
abbrev pub taken_of : Option ℕ → List ℕ → List ℕ
taken_of None piece = piece
taken_of (Some count) piece = take count piece

-- What a lexer is: what is begun, and the refusal that it keeps.
pub record Lexing : Type 0 where
  pub begun : Begun
  pub refused : Option LexFault
