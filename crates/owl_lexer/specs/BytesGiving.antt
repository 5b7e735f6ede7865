-- What is begun in bytes, and what can still come of it.
use Rattle.std.specs.Prelude.{◌≡◌, ℕ, ◌+◌, Bool, true, false, List, [], ◌++◌, length, Option, Some}
use Rattle.owl_characters.specs.Utf8.{behind_mark, mark_size}
use Rattle.owl_characters.specs.Utf8.{Decodes, size}
use Rattle.owl_lexer.specs.declared.fault.LexFault.{LexFault}
use Rattle.owl_lexer.specs.Adding.{tokens_of}
use Rattle.owl_lexer.specs.Automata.{Automaton, Spells}
use Rattle.owl_lexer.specs.Cutting.{Cuts, Lexeme}
use Rattle.owl_lexer.specs.declared.placed.Placed.{Placed}

-- The characters of a lexeme that is begun and the byte of the first of them, the bytes of a character that is begun, and
-- whether nothing but these was fed, so that a byte order mark may begin here.
pub record BegunBytes : Type 0 where
  pub at : ℕ
  pub held : List ℕ
  pub bytes : List ℕ
  pub fresh : Bool

-- nothing is begun behind what was fed, and the next byte stands at this place
abbrev pub nothing_begun : ℕ → BegunBytes
nothing_begun place = record { at = place; held = []; bytes = []; fresh = false }

-- the byte behind what is begun
abbrev pub end_of_bytes : BegunBytes → ℕ
end_of_bytes begun = begun.at + size begun.held + length begun.bytes

-- the characters are these lexemes; where they are the first ones, a byte order mark in front is passed over
abbrev pub CutsBehindMark : Bool → Automaton → ℕ → List ℕ → List ℕ → List Lexeme → Option LexFault → Type 0
CutsBehindMark true a place cs tail lexemes ending = Cuts (Spells a) (place + mark_size cs) (behind_mark cs) tail lexemes ending
CutsBehindMark false a place cs tail lexemes ending = Cuts (Spells a) place cs tail lexemes ending

-- When these bytes follow, and then the end, these lexemes come of what is begun, up to the end or to a fault.
pub record ContinuesBytes (a : Automaton) (begun : BegunBytes) (more : List ℕ) (lexemes : List Lexeme) (ending : Option LexFault) : Type 0 where
  pub characters : List ℕ
  pub tail : List ℕ
  pub decodes : Decodes (begun.bytes ++ more) characters tail
  pub cuts : CutsBehindMark begun.fresh a begun.at (begun.held ++ characters) tail lexemes ending

-- These bytes make new of old, and give these lexemes: whatever follows, they stand before what comes of new, and that
-- comes of old, the bytes and what follows.
abbrev pub GivesBytes : Automaton → BegunBytes → List ℕ → List Lexeme → BegunBytes → Type 0
GivesBytes a old bytes given new =
    (more : List ℕ) (rest : List Lexeme) (ending : Option LexFault) → ContinuesBytes a new more rest ending → ContinuesBytes a old (bytes ++ more) (given ++ rest) ending

-- whatever follows these bytes, these lexemes stand first
abbrev pub GivesSomeBytes : Automaton → BegunBytes → List ℕ → List Lexeme → Type 0
GivesSomeBytes a old bytes given =
    (more : List ℕ) → (rest : List Lexeme) × (ending : Option LexFault) × ContinuesBytes a old (bytes ++ more) (given ++ rest) ending

-- whatever follows these bytes, these are the lexemes, and they end at this fault
abbrev pub EndsBytesAt : Automaton → BegunBytes → List ℕ → List Lexeme → LexFault → Type 0
EndsBytesAt a old bytes given fault = (more : List ℕ) → ContinuesBytes a old (bytes ++ more) given (Some fault)

-- These bytes make new of old, and the tokens of the lexemes that they give were added to a list.
pub record AddsBytes {T : Type 0} (a : Automaton) (value : ℕ → List ℕ → Option T) (old : BegunBytes) (bytes : List ℕ) (before after : List (Placed T)) (new : BegunBytes) : Type 0 where
  pub given : List Lexeme
  pub added : after ≡ before ++ tokens_of value given
  pub gives : GivesBytes a old bytes given new

-- The tokens of some of the next lexemes were added to a list, and perhaps not of all that the bytes give.
pub record AddsSomeBytes {T : Type 0} (a : Automaton) (value : ℕ → List ℕ → Option T) (old : BegunBytes) (bytes : List ℕ) (before after : List (Placed T)) : Type 0 where
  pub given : List Lexeme
  pub added : after ≡ before ++ tokens_of value given
  pub next : GivesSomeBytes a old bytes given

-- Whatever follows these bytes, the lexemes end at this fault; the tokens of those before it were added to a list.
pub record AddsBytesUpTo {T : Type 0} (a : Automaton) (value : ℕ → List ℕ → Option T) (old : BegunBytes) (bytes : List ℕ) (before after : List (Placed T)) (fault : LexFault) : Type 0 where
  pub given : List Lexeme
  pub added : after ≡ before ++ tokens_of value given
  pub ends : EndsBytesAt a old bytes given fault

-- Where nothing follows, the tokens of all lexemes were added to a list, up to the end or to a fault.
pub record AddsLastBytes {T : Type 0} (a : Automaton) (value : ℕ → List ℕ → Option T) (old : BegunBytes) (before after : List (Placed T)) (ending : Option LexFault) : Type 0 where
  pub given : List Lexeme
  pub added : after ≡ before ++ tokens_of value given
  pub last : ContinuesBytes a old [] given ending

-- Where nothing follows, the tokens of some of the lexemes were added to a list, and perhaps not of all.
pub record AddsSomeLastBytes {T : Type 0} (a : Automaton) (value : ℕ → List ℕ → Option T) (old : BegunBytes) (before after : List (Placed T)) : Type 0 where
  pub given : List Lexeme
  pub added : after ≡ before ++ tokens_of value given
  pub next : (rest : List Lexeme) × (ending : Option LexFault) × ContinuesBytes a old [] (given ++ rest) ending
