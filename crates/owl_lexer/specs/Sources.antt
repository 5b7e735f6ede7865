-- What a lexer has in hand of bytes, and what it makes of more.
use Rattle.std.specs.Prelude.{◌≡◌, ◌≢◌, ◌⊎◌, ℕ, ◌+◌, ◌<◌, ◌≤◌, true, false, List, [], ◌∷◌, ◌++◌, length, Option, Some, None}
use Rattle.owl_characters.specs.Feeding.{IsUnfinished}
use Rattle.owl_characters.specs.Utf8.{size}
use Rattle.owl_lexer.specs.declared.fault.LexFault.{LexFault}
use Rattle.owl_lexer.specs.declared.fault.LexFault.TheVariants.{Memory}
use Rattle.owl_lexer.specs.Automata.{Automaton}
use Rattle.owl_lexer.specs.BytesGiving.{AddsBytes, AddsBytesUpTo, AddsLastBytes, AddsSomeBytes, AddsSomeLastBytes, BegunBytes, ContinuesBytes, end_of_bytes, nothing_begun}
use Rattle.std.specs.Char.{IsScalar, len_utf8}
use Rattle.std.specs.Str.{all_scalars, encode_utf8_all}
use Rattle.owl_lexer.specs.Adding.{tokens_of}
use Rattle.owl_lexer.specs.Cutting.{Lexeme}
use Rattle.owl_lexer.specs.Hands.{IsReady}
use Rattle.owl_lexer.specs.Retaking.{AreKept, coming}
use Rattle.owl_lexer.specs.declared.again.Again.{Again}
use Rattle.owl_lexer.specs.Languages.{AreSpelled}
use Rattle.owl_lexer.specs.Lexing.{Adds, AddsLast, AddsSome, AddsSomeLast, AddsToEnd, Begun, EndsAt, KeepsEnd, end_of, nothing_begun as nothing_left}
use Rattle.owl_lexer.specs.declared.placed.Placed.{Placed}
use Rattle.owl_lexer.specs.declared.source.Source.{Source}

-- the same, as bytes alone
abbrev pub bytes_of : BegunBytes → Begun
bytes_of begun = record { at = begun.at; held = encode_utf8_all begun.held ++ begun.bytes; fresh = begun.fresh }

-- the bytes are none, or a proper front of a character
abbrev pub IsPart : List ℕ → Type 0
IsPart bytes = (bytes ≡ []) ⊎ IsUnfinished bytes

-- The place of the next character is the end of what is in hand. What the feed counts is no more, since a run passes it by.
pub record IsOpen (a : Automaton) (source : Source) : Type 0 where
  pub ready : IsReady a source.hand
  pub place : source.feed.at ≤ source.hand.end
  pub clean : source.feed.bad ≡ false
  pub first : source.fresh ≡ true → source.hand.held.items ≡ []
  pub start : source.fresh ≡ true → source.hand.at ≡ 0
  pub part : IsPart source.feed.held

abbrev pub begun_in : Source → BegunBytes
begun_in source = record { at = source.hand.at; held = source.hand.held.items; bytes = source.feed.held; fresh = source.fresh }

-- the same, as bytes alone
abbrev pub bytes_in : Source → Begun
bytes_in source = bytes_of (begun_in source)

-- the bytes were taken
pub record TakesBytes {T : Type 0} (a : Automaton) (value : ℕ → List ℕ → Option T) (old : Source) (bytes : List ℕ) (before after : List (Placed T)) (new : Source) : Type 0 where
  pub ready : IsOpen a new
  pub adds : AddsBytes a value (begun_in old) bytes before after (begun_in new)
  pub few : length after + old.hand.at ≤ length before + new.hand.at
  pub end : end_of_bytes (begun_in new) ≡ end_of_bytes (begun_in old) + length bytes
  pub ends : KeepsEnd (bytes_in old) bytes (bytes_in new)

-- the bytes were refused, or memory ran out
pub record RefusesBytes {T : Type 0} (a : Automaton) (value : ℕ → List ℕ → Option T) (old : BegunBytes) (bytes : List ℕ) (before after : List (Placed T)) (fault : LexFault) : Type 0 where
  pub some : AddsSomeBytes a value old bytes before after
  pub bad : fault ≢ Memory → AddsBytesUpTo a value old bytes before after fault

-- what is begun, with the characters that are taken again
abbrev pub begun_with_again : Source → Again → BegunBytes
begun_with_again source again = record { at = source.hand.at; held = source.hand.held.items ++ coming again; bytes = source.feed.held; fresh = source.fresh }

-- the same, as bytes alone
abbrev pub bytes_with : Source → Again → Begun
bytes_with source again = bytes_of (begun_with_again source again)

-- What is in hand, where characters may be taken again. No byte is taken before these are.
pub record IsOpenWith (a : Automaton) (source : Source) (again : Again) : Type 0 where
  pub ready : IsReady a source.hand
  pub kept : (0 < length again.chars.items) ⊎ (again.ended ≡ true) → AreKept a source.hand again
  pub scalars : all_scalars (source.hand.held.items ++ coming again) ≡ true
  pub place : source.feed.at ≤ source.hand.end + size (coming again)
  pub clean : source.feed.bad ≡ false
  pub first : source.fresh ≡ true → source.hand.held.items ++ coming again ≡ []
  pub start : source.fresh ≡ true → source.hand.at ≡ 0
  pub part : IsPart source.feed.held

-- bytes make new of old, and their tokens were added
pub record Moves {T : Type 0} (a : Automaton) (value : ℕ → List ℕ → Option T) (old : BegunBytes) (bytes : List ℕ) (before after : List (Placed T)) (new : BegunBytes) : Type 0 where
  pub adds : AddsBytes a value old bytes before after new
  pub few : length after + old.at ≤ length before + new.at
  pub end : end_of_bytes new ≡ end_of_bytes old + length bytes
  pub ends : KeepsEnd (bytes_of old) bytes (bytes_of new)

-- a character is whole that leads nowhere, and was not taken
pub record TurnsBack {T : Type 0} (a : Automaton) (value : ℕ → List ℕ → Option T) (old : Source) (bytes : List ℕ) (c : ℕ) (before after : List (Placed T)) (new : Source) : Type 0 where
  pub hand : new.hand ≡ old.hand
  pub moves : Moves a value (begun_in old) bytes before after (record { at = old.hand.at; held = old.hand.held.items ++ c ∷ []; bytes = []; fresh = false })
  pub scalar : IsScalar c
  pub feed : new.feed.held ≡ []
  pub clean : new.feed.bad ≡ false
  pub place : new.feed.at ≤ new.hand.end + len_utf8 c
  pub fresh : new.fresh ≡ false

-- bytes were taken, and characters may be taken again
pub record TakesAgain {T : Type 0} (a : Automaton) (value : ℕ → List ℕ → Option T) (old : Source) (old_again : Again) (bytes : List ℕ) (before after : List (Placed T)) (new : Source) (new_again : Again) : Type 0 where
  pub open_yet : IsOpenWith a new new_again
  pub ended : new_again.ended ≡ false
  pub moves : Moves a value (begun_with_again old old_again) bytes before after (begun_with_again new new_again)

-- the end was told, and all was given
pub record EndsAgain {T : Type 0} (a : Automaton) (value : ℕ → List ℕ → Option T) (old : Source) (old_again : Again) (before after : List (Placed T)) (new : Source) (new_again : Again) : Type 0 where
  pub open_yet : IsOpenWith a new new_again
  pub begun : begun_with_again new new_again ≡ nothing_begun (end_of_bytes (begun_with_again old old_again))
  pub adds : AddsLastBytes a value (begun_with_again old old_again) before after None
  pub few : length after ≤ length before + size (old.hand.held.items ++ coming old_again)

-- the end was told, and some was given: where nothing follows, it stands before what comes of new
pub record EndsSomeAgain {T : Type 0} (a : Automaton) (value : ℕ → List ℕ → Option T) (old : Source) (old_again : Again) (before after : List (Placed T)) (new : Source) (new_again : Again) : Type 0 where
  pub open_yet : IsOpenWith a new new_again
  pub given : List Lexeme
  pub added : after ≡ before ++ tokens_of value given
  pub gives : (rest : List Lexeme) (ending : Option LexFault) → ContinuesBytes a (begun_with_again new new_again) [] rest ending → ContinuesBytes a (begun_with_again old old_again) [] (given ++ rest) ending
  pub few : length after + old.hand.at ≤ length before + new.hand.at
  pub end : end_of_bytes (begun_with_again new new_again) ≡ end_of_bytes (begun_with_again old old_again)

pub record EndsBytesBadly {T : Type 0} (a : Automaton) (value : ℕ → List ℕ → Option T) (old : BegunBytes) (before after : List (Placed T)) (fault : LexFault) : Type 0 where
  pub some : AddsSomeLastBytes a value old before after
  pub bad : fault ≢ Memory → AddsLastBytes a value old before after (Some fault)

-- The same in tokens: a piece of bytes was taken.
pub record TakesPiece {T : Type 0} (spells : T → List ℕ → Type 0) (old : Begun) (bytes : List ℕ) (before after : List (Placed T)) (new : Begun) : Type 0 where
  pub adds : Adds spells old bytes before after new
  pub spelled : AreSpelled spells before → AreSpelled spells after
  pub few : length after + old.at ≤ length before + new.at
  pub end : end_of new ≡ end_of old + length bytes
  pub ends : KeepsEnd old bytes new

-- a piece was refused, or memory ran out
pub record RefusesPiece {T : Type 0} (spells : T → List ℕ → Type 0) (old : Begun) (bytes : List ℕ) (before after : List (Placed T)) (fault : LexFault) : Type 0 where
  pub bad : fault ≢ Memory → EndsAt spells old bytes before after fault
  pub some : AddsSome spells old bytes before after
  pub spelled : AreSpelled spells before → AreSpelled spells after

-- the end of all pieces was told
pub record EndsPieces {T : Type 0} (spells : T → List ℕ → Type 0) (old : Begun) (before after : List (Placed T)) (new : Begun) : Type 0 where
  pub begun : new ≡ nothing_left (end_of old)
  pub adds : AddsLast spells old before after None
  pub spelled : AreSpelled spells before → AreSpelled spells after
  pub few : length after ≤ length before + length old.held

-- and some was given
pub record EndsSomePieces {T : Type 0} (spells : T → List ℕ → Type 0) (old : Begun) (before after : List (Placed T)) (new : Begun) : Type 0 where
  pub adds : AddsToEnd spells old before after new
  pub spelled : AreSpelled spells before → AreSpelled spells after
  pub few : length after + old.at ≤ length before + new.at
  pub end : end_of new ≡ end_of old

pub record EndsPiecesBadly {T : Type 0} (spells : T → List ℕ → Type 0) (old : Begun) (before after : List (Placed T)) (fault : LexFault) : Type 0 where
  pub bad : fault ≢ Memory → AddsLast spells old before after (Some fault)
  pub some : AddsSomeLast spells old before after
  pub spelled : AreSpelled spells before → AreSpelled spells after
