-- Automata over characters.
use Rattle.std.specs.Prelude.{◌≡◌, ◌↔◌, ℕ, List, [], ◌∷◌, Option, None, Some}

-- Where it begins, the state to which a character leads from a state, and which kind of lexeme is whole at a state.
pub record Automaton : Type 0 where
  pub start : ℕ
  pub step : ℕ → ℕ → Option ℕ
  pub kind : ℕ → Option ℕ

abbrev pub step_from : Automaton → Option ℕ → ℕ → Option ℕ
step_from a None c = None
step_from a (Some state) c = a.step state c

-- the state to which characters lead
abbrev pub run : Automaton → Option ℕ → List ℕ → Option ℕ
run a state [] = state
run a state (c ∷ cs) = run a (step_from a state c) cs

abbrev pub kind_at : Automaton → Option ℕ → Option ℕ
kind_at a None = None
kind_at a (Some state) = a.kind state

-- the kind of lexeme that the characters are
abbrev pub kind_of : Automaton → List ℕ → Option ℕ
kind_of a cs = kind_at a (run a (Some a.start) cs)

-- the characters are a lexeme of this kind
abbrev pub Spells : Automaton → ℕ → List ℕ → Type 0
Spells a kind cs = kind_of a cs ≡ Some kind

-- the automaton knows the lexemes of a grammar
abbrev pub Knows : Automaton → (ℕ → List ℕ → Type 0) → Type 0
Knows a grammar = (kind : ℕ) (cs : List ℕ) → Spells a kind cs ↔ grammar kind cs
