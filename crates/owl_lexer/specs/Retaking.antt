-- Characters that are taken again behind a lexeme that was cut, and what is made of them.
use Rattle.std.specs.Prelude.{◌≡◌, ◌≢◌, ℕ, ◌+◌, ◌<◌, ◌≤◌, Bool, true, List, [], ◌++◌, length, reverse, Option, Some}
use Rattle.std.specs.List.{All}
use Rattle.owl_lexer.specs.declared.fault.LexFault.{LexFault}
use Rattle.owl_lexer.specs.declared.fault.LexFault.TheVariants.{Memory}
use Rattle.owl_lexer.specs.Adding.{tokens_of}
use Rattle.owl_lexer.specs.Automata.{Automaton, run}
use Rattle.owl_lexer.specs.Cutting.{Lexeme}
use Rattle.owl_lexer.specs.Giving.{Begun, Continues, end_of}
use Rattle.owl_lexer.specs.Hands.{EndsIn, IsReady}
use Rattle.owl_lexer.specs.Holding.{IsLost}
use Rattle.owl_lexer.specs.declared.again.Again.{Again}
use Rattle.owl_lexer.specs.declared.again.LostRun.{LostRun}
use Rattle.owl_lexer.specs.declared.hand.Hand.{Hand}
use Rattle.owl_lexer.specs.declared.placed.Placed.{Placed}

-- the characters that are taken again, the next one first
abbrev pub coming : Again → List ℕ
coming again = reverse again.chars.items

-- what is begun: what is held, and what is taken again
abbrev pub begun_with : Hand → Again → Begun
begun_with hand again = record { at = hand.at; held = hand.held.items ++ coming again }

-- a run is lost in front of what is held and of these characters; where it leads on over what is held, it stands at next
pub record IsLostRun (a : Automaton) (ended : Bool) (held cs : List ℕ) (lost : LostRun) : Type 0 where
  pub is : IsLost a ended lost.first (held ++ cs)
  pub leads : run a (Some lost.first) held ≡ lost.next

-- the runs that are kept are lost
abbrev pub AreKept : Automaton → Hand → Again → Type 0
AreKept a hand again = All (IsLostRun a again.ended hand.held.items (coming again)) again.lost.items

-- characters were taken again, and are held
pub record HoldsAgain (a : Automaton) (old_hand : Hand) (old : Again) (new_hand : Hand) (new : Again) : Type 0 where
  pub ready : IsReady a new_hand
  pub kept : AreKept a new_hand new
  pub ended : new.ended ≡ old.ended
  pub at : new_hand.at ≡ old_hand.at
  pub whole : new_hand.held.items ++ coming new ≡ old_hand.held.items ++ coming old

-- what may follow: nothing, where the end was told
abbrev pub MayFollow : Bool → List ℕ → Type 0
MayFollow ended more = ended ≡ true → more ≡ []

-- These lexemes were cut from the front of old, and new is left: whatever may follow, they stand before what comes of new,
-- and that comes of old. Their tokens were added to a list.
pub record AddsCut {T : Type 0} (a : Automaton) (value : ℕ → List ℕ → Option T) (ended : Bool) (old : Begun) (before after : List (Placed T)) (new : Begun) : Type 0 where
  pub given : List Lexeme
  pub added : after ≡ before ++ tokens_of value given
  pub gives : (more tail : List ℕ) (rest : List Lexeme) (ending : Option LexFault) → MayFollow ended more → Continues a new more tail rest ending → Continues a old more tail (given ++ rest) ending
  pub few : length after + old.at ≤ length before + new.at
  pub end : end_of new ≡ end_of old
  pub ends : EndsIn old.held new.held

-- the longest lexeme in front was cut
pub record CutsFront {T : Type 0} (a : Automaton) (value : ℕ → List ℕ → Option T) (old_hand : Hand) (old : Again) (before after : List (Placed T)) (new_hand : Hand) (new : Again) : Type 0 where
  pub ready : IsReady a new_hand
  pub kept : AreKept a new_hand new
  pub ended : new.ended ≡ old.ended
  pub adds : AddsCut a value old.ended (begun_with old_hand old) before after (begun_with new_hand new)
  pub fewer : length new_hand.held.items + length new.chars.items < length old_hand.held.items + length old.chars.items

-- lexemes were cut, and what is left may be cut next
pub record Settles {T : Type 0} (a : Automaton) (value : ℕ → List ℕ → Option T) (old_hand : Hand) (old : Again) (before after : List (Placed T)) (new_hand : Hand) (new : Again) : Type 0 where
  pub ready : IsReady a new_hand
  pub kept : AreKept a new_hand new
  pub ended : new.ended ≡ old.ended
  pub adds : AddsCut a value old.ended (begun_with old_hand old) before after (begun_with new_hand new)

-- Whatever may follow, these lexemes stand first, and perhaps more; their tokens were added to a list.
pub record AddsSomeCut {T : Type 0} (a : Automaton) (value : ℕ → List ℕ → Option T) (ended : Bool) (old : Begun) (before after : List (Placed T)) : Type 0 where
  pub given : List Lexeme
  pub added : after ≡ before ++ tokens_of value given
  pub next : (more tail : List ℕ) → MayFollow ended more → (rest : List Lexeme) × (ending : Option LexFault) × Continues a old more tail (given ++ rest) ending

-- Whatever may follow, the lexemes end at this fault; the tokens of those before it were added to a list.
pub record AddsCutUpTo {T : Type 0} (a : Automaton) (value : ℕ → List ℕ → Option T) (ended : Bool) (old : Begun) (before after : List (Placed T)) (fault : LexFault) : Type 0 where
  pub given : List Lexeme
  pub added : after ≡ before ++ tokens_of value given
  pub stop : (more tail : List ℕ) → MayFollow ended more → Continues a old more tail given (Some fault)

-- what was begun was refused, or memory ran out
pub record RefusesAgain {T : Type 0} (a : Automaton) (value : ℕ → List ℕ → Option T) (ended : Bool) (old : Begun) (before after : List (Placed T)) (fault : LexFault) : Type 0 where
  pub some : AddsSomeCut a value ended old before after
  pub bad : fault ≢ Memory → AddsCutUpTo a value ended old before after fault
