-- Tokens that stand for lexemes, and that are added to a list.
use Rattle.std.specs.Prelude.{◌≡◌, ℕ, List, [], ◌∷◌, ◌++◌, Option, None, Some}
use Rattle.owl_lexer.specs.declared.fault.LexFault.{LexFault}
use Rattle.owl_lexer.specs.Automata.{Automaton}
use Rattle.owl_lexer.specs.Cutting.{Lexeme}
use Rattle.owl_lexer.specs.Giving.{Begun, EndsAt, EndsLastAt, Gives, GivesLast, GivesSome, GivesSomeLast}
use Rattle.owl_lexer.specs.declared.placed.Placed.{Placed}

-- the token of a lexeme at its place, where it stands for one
abbrev pub placed_at : {T : Type 0} → ℕ → Option T → List (Placed T)
placed_at at None = []
placed_at at (Some token) = record { token = token; at = at } ∷ []

-- the tokens that lexemes stand for
abbrev pub tokens_of : {T : Type 0} → (ℕ → List ℕ → Option T) → List Lexeme → List (Placed T)
tokens_of value [] = []
tokens_of value (first ∷ others) = placed_at first.at (value first.kind first.spelling) ++ tokens_of value others

-- These characters make new of old, and the tokens of the lexemes that they give were added to a list.
pub record Adds {T : Type 0} (a : Automaton) (value : ℕ → List ℕ → Option T) (old : Begun) (cs : List ℕ) (before after : List (Placed T)) (new : Begun) : Type 0 where
  pub given : List Lexeme
  pub added : after ≡ before ++ tokens_of value given
  pub gives : Gives a old cs given new

-- The tokens of some of the next lexemes were added to a list, and perhaps not of all that the characters give.
pub record AddsSome {T : Type 0} (a : Automaton) (value : ℕ → List ℕ → Option T) (old : Begun) (cs : List ℕ) (before after : List (Placed T)) : Type 0 where
  pub given : List Lexeme
  pub added : after ≡ before ++ tokens_of value given
  pub next : GivesSome a old cs given

-- Whatever follows these characters, the lexemes end at this fault; the tokens of those before it were added to a list.
pub record AddsUpTo {T : Type 0} (a : Automaton) (value : ℕ → List ℕ → Option T) (old : Begun) (cs : List ℕ) (before after : List (Placed T)) (fault : LexFault) : Type 0 where
  pub given : List Lexeme
  pub added : after ≡ before ++ tokens_of value given
  pub ends : EndsAt a old cs given fault

-- Where no character follows, the tokens of all lexemes were added to a list.
pub record AddsLast {T : Type 0} (a : Automaton) (value : ℕ → List ℕ → Option T) (old : Begun) (before after : List (Placed T)) : Type 0 where
  pub given : List Lexeme
  pub added : after ≡ before ++ tokens_of value given
  pub last : GivesLast a old given

-- Where no character follows, the tokens of some of the lexemes were added to a list, and perhaps not of all.
pub record AddsSomeLast {T : Type 0} (a : Automaton) (value : ℕ → List ℕ → Option T) (old : Begun) (before after : List (Placed T)) : Type 0 where
  pub given : List Lexeme
  pub added : after ≡ before ++ tokens_of value given
  pub next : GivesSomeLast a old given

-- Where no character follows, the lexemes end at this fault; the tokens of those before it were added to a list.
pub record AddsLastUpTo {T : Type 0} (a : Automaton) (value : ℕ → List ℕ → Option T) (old : Begun) (before after : List (Placed T)) (fault : LexFault) : Type 0 where
  pub given : List Lexeme
  pub added : after ≡ before ++ tokens_of value given
  pub ends : EndsLastAt a old given fault
