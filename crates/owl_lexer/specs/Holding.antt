-- The longest lexeme in front of the characters in hand.
use Rattle.std.specs.Prelude.{◌≡◌, ℕ, ◌<◌, ◌≤◌, Bool, false, List, [], ◌∷◌, length, take, Option, None, Some}
use Rattle.owl_lexer.specs.Automata.{Automaton, Spells, kind_at, run, step_from}

-- no lexeme of more characters than these stands in front
abbrev pub NoneBeyond : Automaton → List ℕ → ℕ → Type 0
NoneBeyond a held count = (n kind : ℕ) → count < n → n ≤ length held → Spells a kind (take n held) → ⊥

-- the first characters, so many, are a lexeme of this kind, and no longer one stands in front
pub record IsFront (a : Automaton) (held : List ℕ) (count kind : ℕ) : Type 0 where
  pub some : 0 < count
  pub within : count ≤ length held
  pub spelled : Spells a kind (take count held)
  pub longest : NoneBeyond a held count

-- the characters lead to this state
abbrev pub LeadsTo : Automaton → List ℕ → ℕ → Type 0
LeadsTo a held state = run a (Some a.start) held ≡ Some state

-- no lexeme is whole behind any of the characters
abbrev pub IsBarren : Automaton → Option ℕ → List ℕ → Type 0
IsBarren a state [] = Unit {0}
IsBarren a state (c ∷ cs) = (kind_at a (step_from a state c) ≡ None) × IsBarren a (step_from a state c) cs

-- The run that stands at this state, before these characters, is lost: whatever follows them, no longer lexeme comes of it.
-- Where the end follows, they need not lead nowhere.
pub record IsLost (a : Automaton) (ended : Bool) (state : ℕ) (cs : List ℕ) : Type 0 where
  pub barren : IsBarren a (Some state) cs
  pub stops : ended ≡ false → run a (Some state) cs ≡ None
