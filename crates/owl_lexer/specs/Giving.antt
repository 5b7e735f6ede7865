-- What is begun, and what can still come of it.
use Rattle.std.specs.Prelude.{ℕ, ◌+◌, List, [], ◌++◌, Option, Some}
use Rattle.owl_characters.specs.Utf8.{size}
use Rattle.owl_lexer.specs.declared.fault.LexFault.{LexFault}
use Rattle.owl_lexer.specs.Automata.{Automaton, Spells}
use Rattle.owl_lexer.specs.Cutting.{Cuts, Lexeme, Stops}

-- The characters of a lexeme that is begun, and the byte of the first of them.
pub record Begun : Type 0 where
  pub at : ℕ
  pub held : List ℕ

-- nothing is begun, and the next character stands at this byte
abbrev pub nothing_at : ℕ → Begun
nothing_at place = record { at = place; held = [] }

-- the byte behind what is begun
abbrev pub end_of : Begun → ℕ
end_of begun = begun.at + size begun.held

-- When these characters follow, and then a tail that begins no character, these lexemes come of what is begun, up to the
-- end or to a fault.
abbrev pub Continues : Automaton → Begun → List ℕ → List ℕ → List Lexeme → Option LexFault → Type 0
Continues a begun more tail lexemes ending = Cuts (Spells a) begun.at (begun.held ++ more) tail lexemes ending

-- These characters make new of old, and give these lexemes: whatever follows, they stand before what comes of new, and that
-- comes of old, the characters and what follows. One thing comes of them at most, and one at least.
abbrev pub Gives : Automaton → Begun → List ℕ → List Lexeme → Begun → Type 0
Gives a old cs given new =
    (more tail : List ℕ) (rest : List Lexeme) (ending : Option LexFault) → Continues a new more tail rest ending → Continues a old (cs ++ more) tail (given ++ rest) ending

-- whatever follows these characters, these lexemes stand first
abbrev pub GivesSome : Automaton → Begun → List ℕ → List Lexeme → Type 0
GivesSome a old cs given =
    (more tail : List ℕ) → (rest : List Lexeme) × (ending : Option LexFault) × Continues a old (cs ++ more) tail (given ++ rest) ending

-- whatever follows these characters, these are the lexemes, and they end at this fault
abbrev pub EndsAt : Automaton → Begun → List ℕ → List Lexeme → LexFault → Type 0
EndsAt a old cs given fault = (more tail : List ℕ) → Continues a old (cs ++ more) tail given (Some fault)

-- where no character follows, these are the lexemes, and they end as the place behind what is begun does
abbrev pub GivesLast : Automaton → Begun → List Lexeme → Type 0
GivesLast a old given =
    (tail : List ℕ) (ending : Option LexFault) → Stops (Spells a) (end_of old) [] tail ending → Continues a old [] tail given ending

-- where no character follows, these lexemes stand first
abbrev pub GivesSomeLast : Automaton → Begun → List Lexeme → Type 0
GivesSomeLast a old given =
    (tail : List ℕ) → (rest : List Lexeme) × (ending : Option LexFault) × Continues a old [] tail (given ++ rest) ending

-- where no character follows, these are the lexemes, and they end at this fault
abbrev pub EndsLastAt : Automaton → Begun → List Lexeme → LexFault → Type 0
EndsLastAt a old given fault = (tail : List ℕ) → Continues a old [] tail given (Some fault)
