-- What the lexer of a dialect has in hand.
use Rattle.owl_text.specs.Dialects.{Lexing}
use Rattle.owl_text.specs.declared.dialect.Dialect.TheVariants.{Functional, Manchester}
use Rattle.owl_text.specs.declared.lexer.Cutter.{Cutter}
use Rattle.owl_text.specs.declared.lexer.Cutter.TheVariants.{Functional as FunctionalCutter, Manchester as ManchesterCutter}

abbrev pub lexing_of : Cutter → Lexing
lexing_of (FunctionalCutter lexer) = record { dialect = Functional; begun = lexer.begun; refused = lexer.refused }
lexing_of (ManchesterCutter lexer) = record { dialect = Manchester; begun = lexer.begun; refused = lexer.refused }
