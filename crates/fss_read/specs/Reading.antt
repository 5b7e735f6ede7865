-- How a reader of Functional-Style Syntax stands to the bytes that it was fed.
use Rattle.std.specs.Prelude.{ℕ, List}
use Rattle.owl_reader.specs.Early as early
use Rattle.owl_reader.specs.Events.{MadeByEvents}
use Rattle.owl_reader.specs.Readings as readings
use Rattle.owl_reader.specs.declared.fault.ReadFault.{ReadFault}
use Rattle.owl_tokens.specs.Tokens.{Spells}
use Rattle.fss_acts.specs.Assembling.{Made}
use Rattle.fss_defects.specs.Rules.{functional_rules}
use Rattle.fss_acts.specs.declared.assembler.Assembler.{Assembler}
use Rattle.fss_grammar.specs.Page.{functional_page}

-- whatever follows these bytes, it is the first defect
abbrev pub Refuses : List ℕ → ReadFault → Type 0
Refuses bytes fault = readings.Refuses Spells functional_page functional_rules bytes fault

-- the reader was fed these bytes
abbrev pub HasRead : readings.Reading Assembler → List ℕ → Type 0
HasRead r bytes = readings.HasRead Spells functional_page functional_rules (MadeByEvents Made) r bytes

-- no defect at a token that white space follows is left
abbrev pub TellsEarly : readings.Reading Assembler → Type 0
TellsEarly r = early.TellsEarly Spells functional_page functional_rules (MadeByEvents Made) r
