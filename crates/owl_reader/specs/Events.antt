-- Syntaxes whose tokens say the same wherever they stand: what is said of events is said of the steps that have them.
use Rattle.std.specs.Prelude.{ℕ, List, ◌++◌, map, Option}
use Rattle.grammar.specs.Derivations.{Event}
use Rattle.grammar.specs.Derivations.Event.{Do}
use Rattle.owl_lexer.specs.declared.placed.Placed.{Placed}
use Rattle.owl_reader.specs.Steps.{Step, events_of, token_in}
use Rattle.owl_reader.specs.declared.fault.TokenFault.{TokenFault}

abbrev pub MadeByEvents : {T S : Type 0} → (List (Event T) → S → Type 0) → List (Step T) → S → Type 0
MadeByEvents Made steps made = Made (events_of steps) made

abbrev pub WholeByEvents : {T S : Type 0} → (List (Event T) → S → Type 0) → List (Step T) → List ℕ → S → Type 0
WholeByEvents Whole steps acts made = Whole (events_of steps ++ map Do acts) made

abbrev pub BarsByEvents : {T : Type 0} → (List (Event T) → List ℕ → Option T → TokenFault → Type 0) → List (Step T) → List ℕ → Option (Placed T) → TokenFault → Type 0
BarsByEvents Bars steps acts next fault = Bars (events_of steps) acts (token_in next) fault
