-- Defects that are told as soon as white space follows them.
use Rattle.std.specs.Prelude.{ℕ, List}
use Rattle.grammar.specs.Grammars.{Entry}
use Rattle.owl_lexer.specs.Lexing.{HoldsNoEnd}
use Rattle.owl_reader.specs.Defects.{HasNoneBeforeSpace}
use Rattle.owl_reader.specs.Readings.{HasRead, Reading}
use Rattle.owl_reader.specs.Steps.{Step}
use Rattle.owl_reader.specs.Syntaxes.{Rules}

-- No token that white space follows is held back, unless long quotes are. So none of the bytes that were read is refused later,
-- where white space follows it among them.
pub record TellsEarly {T S : Type 0} (spells : T → List ℕ → Type 0) (g : List Entry) (rules : Rules T) (Made : List (Step T) → S → Type 0) (r : Reading S) : Type 0 where
  pub holds : HoldsNoEnd spells rules.long_quotes r.lexing.begun
  pub none : (bytes : List ℕ) → HasRead spells g rules Made r bytes → HasNoneBeforeSpace spells g rules bytes
