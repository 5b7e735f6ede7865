-- How a reader of Turtle stands to the bytes that it was fed.
use Rattle.std.specs.Prelude.{ℕ, List, Option}
use Rattle.owl_reader.specs.Early as early
use Rattle.owl_reader.specs.Events.{MadeByEvents}
use Rattle.owl_reader.specs.Readings as readings
use Rattle.owl_reader.specs.declared.fault.ReadFault.{ReadFault}
use Rattle.ttl_tokens.specs.TurtleSpellings.{Spells}
use Rattle.ttl_grammar.specs.Page.{turtle_page}
use Rattle.ttl_grammar.specs.Rules.{turtle_rules}
use Rattle.ttl_read.specs.Showing.{Made}
use Rattle.ttl_read.specs.declared.assembler.Assembler.{Assembler}

-- against a base, if there is one, and whatever follows these bytes, it is the first defect
abbrev pub Refuses : Option (List ℕ) → List ℕ → ReadFault → Type 0
Refuses base bytes fault = readings.Refuses Spells turtle_page (turtle_rules base) bytes fault

-- the reader was begun with this base, or with none, and was fed these bytes
abbrev pub HasRead : Option (List ℕ) → readings.Reading Assembler → List ℕ → Type 0
HasRead base r bytes = readings.HasRead Spells turtle_page (turtle_rules base) (MadeByEvents (Made base)) r bytes

-- No defect before white space is left among them, where they hold neither `"""` nor `'''`.
abbrev pub TellsEarly : Option (List ℕ) → readings.Reading Assembler → Type 0
TellsEarly base r = early.TellsEarly Spells turtle_page (turtle_rules base) (MadeByEvents (Made base)) r
