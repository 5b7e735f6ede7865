-- What comes of tokens whose classes a parser was fed.
use Rattle.std.specs.Prelude.{◌≡◌, ℕ, List, map}
use Rattle.grammar.specs.Derivations.{Event}
use Rattle.grammar.specs.Feeding.{Fed}
use Rattle.grammar.specs.Grammars.{Entry}
use Rattle.grammar.specs.Lowering.{lower, tokens_of}
use Rattle.grammar.specs.declared.symbol.Symbol.{Symbol}

-- The classes of these tokens were fed where the start was expected, with these events, and these symbols are expected now.
pub record FedTokens {X : Type 0} (class_of : X → ℕ) (g : List Entry) (start : List Symbol) (tokens : List X) (events : List (Event X)) (expected : List Symbol) : Type 0 where
  pub fed : Fed g start (map class_of tokens) (map (lower class_of) events) expected
  pub taken : tokens_of events ≡ tokens
