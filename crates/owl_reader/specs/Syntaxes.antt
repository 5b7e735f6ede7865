-- What a syntax tells of its tokens, besides how they are written and its grammar.
use Rattle.std.specs.Prelude.{ℕ, Bool, List, map, Option}
use Rattle.std.specs.Str.{encode_utf8_all}
use Rattle.owl_lexer.specs.Words.{HoldsOne}
use Rattle.owl_lexer.specs.declared.placed.Placed.{Placed}
use Rattle.owl_reader.specs.Steps.{Step}
use Rattle.owl_reader.specs.declared.fault.TokenFault.{TokenFault}
use Rattle.owl_reader.specs.declared.item.Mark.{Mark}

pub record Rules (T : Type 0) : Type 1 where
  -- the class of a token, by which the grammar tells it
  pub class : T → ℕ
  -- the rule of documents
  pub document : ℕ
  -- what an act says of the token behind it
  pub mark : ℕ → Mark
  -- whether this token, or the end, begins an item. Where no document goes on with it, it does so behind a whole item only
  pub begins : Option T → Bool
  -- the classes of tokens of which one may stand behind each item that is whole
  pub behind : List ℕ
  -- for which reasons, behind these steps, these acts can't be done in front of this token or of the end
  pub Bars : List (Step T) → List ℕ → Option (Placed T) → TokenFault → Type 0
  -- the quotes of strings that may hold white space though a front of them is a token
  pub long_quotes : List (List ℕ)

-- the bytes hold one of these quotes
abbrev pub HoldsQuotes : {T : Type 0} → Rules T → List ℕ → Type 0
HoldsQuotes rules bytes = HoldsOne (map encode_utf8_all rules.long_quotes) bytes
