-- What the machine has in hand, and what it makes of characters.
use Rattle.std.specs.Prelude.{◌≡◌, ◌≢◌, ℕ, ◌+◌, ◌<◌, ◌≤◌, List, [], ◌∷◌, ◌++◌, length, take, true, Option, None, Some}
use Rattle.std.specs.Str.{all_scalars}
use Rattle.owl_characters.specs.Utf8.{size}
use Rattle.owl_lexer.specs.declared.fault.LexFault.{LexFault}
use Rattle.owl_lexer.specs.declared.fault.LexFault.TheVariants.{Memory}
use Rattle.owl_lexer.specs.Adding.{Adds, AddsLast, AddsLastUpTo, AddsSome, AddsSomeLast, AddsUpTo}
use Rattle.owl_lexer.specs.Automata.{Automaton}
use Rattle.owl_lexer.specs.Giving.{Begun, nothing_at}
use Rattle.owl_lexer.specs.Holding.{IsFront, LeadsTo, NoneBeyond}
use Rattle.owl_lexer.specs.declared.hand.Front.{Front}
use Rattle.owl_lexer.specs.declared.hand.Hand.{Hand}
use Rattle.owl_lexer.specs.declared.placed.Placed.{Placed}

-- the longest lexeme in front of what is held, where there is one, the byte behind it, and the state to which it leads
abbrev pub IsFrontOf : Automaton → ℕ → List ℕ → Option Front → Type 0
IsFrontOf a at held None = NoneBeyond a held 0
IsFrontOf a at held (Some front) = IsFront a held front.length front.kind × (front.end ≡ at + size (take front.length held)) × LeadsTo a (take front.length held) front.state

-- Where the state is that of a lexeme, all that is held is the longest; else it is remembered.
pub record IsReady (a : Automaton) (hand : Hand) : Type 0 where
  pub leads : LeadsTo a hand.held.items hand.state
  pub front : a.kind hand.state ≡ None → IsFrontOf a hand.at hand.held.items hand.front
  pub end : hand.end ≡ hand.at + size hand.held.items
  pub scalars : all_scalars hand.held.items ≡ true

abbrev pub begun_of : Hand → Begun
begun_of hand = record { at = hand.at; held = hand.held.items }

-- ASCII characters, each of which leads from a state back to it
abbrev pub AreRun : Automaton → ℕ → List ℕ → Type 0
AreRun a state [] = Unit {0}
AreRun a state (c ∷ cs) = (c < 128) × (a.step state c ≡ Some state) × AreRun a state cs

-- the characters of a run are held too
pub record HoldsRun (a : Automaton) (old : Hand) (cs : List ℕ) (new : Hand) : Type 0 where
  pub run : AreRun a old.state cs
  pub ready : IsReady a new
  pub at : new.at ≡ old.at
  pub held : new.held.items ≡ old.held.items ++ cs
  pub end : new.end ≡ old.end + length cs

-- the characters end with these
pub record EndsIn (cs held : List ℕ) : Type 0 where
  pub front : List ℕ
  pub parts : cs ≡ front ++ held

-- the characters were taken
pub record Takes {T : Type 0} (a : Automaton) (value : ℕ → List ℕ → Option T) (old : Hand) (cs : List ℕ) (before after : List (Placed T)) (new : Hand) : Type 0 where
  pub ready : IsReady a new
  pub adds : Adds a value (begun_of old) cs before after (begun_of new)
  pub few : length after + old.at ≤ length before + new.at
  pub end : new.end ≡ old.end + size cs
  pub ends : EndsIn (old.held.items ++ cs) new.held.items

-- the characters were refused, or memory ran out
pub record Refuses {T : Type 0} (a : Automaton) (value : ℕ → List ℕ → Option T) (old : Begun) (cs : List ℕ) (before after : List (Placed T)) (fault : LexFault) : Type 0 where
  pub some : AddsSome a value old cs before after
  pub bad : fault ≢ Memory → AddsUpTo a value old cs before after fault

-- the end was told
pub record Finishes {T : Type 0} (a : Automaton) (value : ℕ → List ℕ → Option T) (old : Hand) (before after : List (Placed T)) (new : Hand) : Type 0 where
  pub ready : IsReady a new
  pub begun : begun_of new ≡ nothing_at old.end
  pub adds : AddsLast a value (begun_of old) before after
  pub few : length after ≤ length before + size old.held.items

pub record FinishesBadly {T : Type 0} (a : Automaton) (value : ℕ → List ℕ → Option T) (old : Begun) (before after : List (Placed T)) (fault : LexFault) : Type 0 where
  pub some : AddsSomeLast a value old before after
  pub bad : fault ≢ Memory → AddsLastUpTo a value old before after fault
