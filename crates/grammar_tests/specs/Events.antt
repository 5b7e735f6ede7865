-- The events of a sentence of items, as code has them.
use Rattle.std.specs.Prelude.{◌≡◌, ℕ, None, List, [], ◌∷◌, map}
use Rattle.grammar.specs.Derivations.{Derives, Event}
use Rattle.grammar.specs.Derivations.Event.{Do, Take}
use Rattle.grammar.specs.Feeding.{Fed}
use Rattle.grammar.specs.Parsing.{Parsing}
use Rattle.grammar.specs.declared.symbol.Symbol.{Symbol}
use Rattle.grammar.specs.declared.symbol.Symbol.TheVariants.{Rule}
use Rattle.grammar_tests.specs.ItemsTable.{items}
use Rattle.grammar_tests.specs.declared.sentence.Event as code
use Rattle.grammar_tests.specs.declared.sentence.Event.TheVariants as code_event

abbrev pub event_seen : code.Event → Event ℕ
event_seen (code_event.Take class) = Take class
event_seen (code_event.Do a) = Do a

abbrev pub events_seen : List code.Event → List (Event ℕ)
events_seen events = map event_seen events

-- an item
abbrev pub start : List Symbol
start = Rule 0 ∷ []

-- a parser was fed tokens of these classes, with these events, and has refused none
pub record IsFed (front : List ℕ) (events : List (Event ℕ)) (parser : Parsing) : Type 0 where
  pub fed : Fed items start front events parser.expected
  pub open_yet : parser.refused ≡ None

-- these events are the only ones of these tokens
pub record IsSentence (classes : List ℕ) (events : List (Event ℕ)) : Type 0 where
  pub derives : Derives items start classes events
  pub only : (es : List (Event ℕ)) → Derives items start classes es → es ≡ events
