-- The dialects, how their tokens are written, and what a lexer of one has in hand.
use Rattle.std.specs.Prelude.{ℕ, List, Option}
use Rattle.owl_lexer.specs.Lexing.{Begun}
use Rattle.owl_lexer.specs.declared.fault.LexFault.{LexFault}
use Rattle.owl_text.specs.declared.dialect.Dialect.{Dialect}
use Rattle.owl_text.specs.declared.dialect.Dialect.TheVariants.{Functional, Manchester}
use Rattle.owl_tokens.specs.ManchesterSpellings.{SpellsManchester}
use Rattle.owl_tokens.specs.Tokens.{Spells}
use Rattle.owl_tokens.specs.declared.token.Token.{Token}

-- These characters are written for the token in a dialect.
abbrev pub SpellsIn : Dialect → Token → List ℕ → Type 0
SpellsIn Functional = Spells
SpellsIn Manchester = SpellsManchester

-- What a lexer is: its dialect, what is begun, and the refusal that it keeps.
pub record Lexing : Type 0 where
  pub dialect : Dialect
  pub begun : Begun
  pub refused : Option LexFault
