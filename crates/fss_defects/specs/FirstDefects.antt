-- The first defect of bytes as a document in Functional-Style Syntax.
use Rattle.std.specs.Prelude.{ℕ, List}
use Rattle.owl_reader.specs.Defects as defects
use Rattle.owl_reader.specs.declared.fault.ReadFault.{ReadFault}
use Rattle.owl_tokens.specs.Tokens.{Spells}
use Rattle.fss_grammar.specs.Page.{functional_page}
use Rattle.fss_defects.specs.Rules.{functional_rules}

abbrev pub IsFirstDefect : List ℕ → ReadFault → Type 0
IsFirstDefect bytes fault = defects.IsFirstDefect Spells functional_page functional_rules bytes fault
