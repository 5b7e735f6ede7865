-- How a reader of Manchester Syntax stands to the bytes that it was fed.
use Rattle.std.specs.Prelude.{ℕ, List}
use Rattle.owl_reader.specs.Early as early
use Rattle.owl_reader.specs.Readings as readings
use Rattle.owl_reader.specs.declared.fault.ReadFault.{ReadFault}
use Rattle.owl_tokens.specs.ManchesterSpellings.{SpellsManchester}
use Rattle.man_grammar.specs.Page.{manchester_page}
use Rattle.man_grammar.specs.Rules.{manchester_rules}
use Rattle.man_read.specs.Showing.{Made}
use Rattle.man_read.specs.declared.assembler.Assembler.{Assembler}

-- whatever follows these bytes, it is the first defect
abbrev pub Refuses : List ℕ → ReadFault → Type 0
Refuses bytes fault = readings.Refuses SpellsManchester manchester_page manchester_rules bytes fault

-- the reader was fed these bytes
abbrev pub HasRead : readings.Reading Assembler → List ℕ → Type 0
HasRead r bytes = readings.HasRead SpellsManchester manchester_page manchester_rules Made r bytes

-- no defect before white space is left among them
abbrev pub TellsEarly : readings.Reading Assembler → Type 0
TellsEarly r = early.TellsEarly SpellsManchester manchester_page manchester_rules Made r
