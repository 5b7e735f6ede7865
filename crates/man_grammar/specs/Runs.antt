-- What a document says: the acts of its derivation, done one after another (Manchester Syntax, sections 2.1 to 2.6).
use Rattle.std.specs.Prelude.{ℕ, List, Option, None, Some, Result, Ok}
use Rattle.std.specs.List.{fold}
use Rattle.owl_lexer.specs.declared.placed.Placed.{Placed}
use Rattle.owl_reader.specs.Steps.{Step}
use Rattle.owl_reader.specs.declared.fault.TokenFault.{TokenFault}
use Rattle.owl_tokens.specs.declared.token.Token.{Token}
use Rattle.man_grammar.specs.Acts.{act_numbered}
use Rattle.man_grammar.specs.States.{State, acted, and_then, start}
use Rattle.man_grammar.specs.declared.act.Act.{Act}

-- the act with a number; a number of no act does nothing
abbrev pub done : Option Act → Option (Placed Token) → State → Result State TokenFault
done None next state = Ok state
done (Some a) next state = acted a next state

-- one act more
abbrev pub done_next : Option (Placed Token) → Result State TokenFault → ℕ → Result State TokenFault
done_next next result a = and_then result (λ state. done (act_numbered a) next state)

-- acts in turn, in front of this token or of the end
abbrev pub all_done : List ℕ → Option (Placed Token) → State → Result State TokenFault
all_done acts next state = fold (done_next next) (Ok state) acts

-- a token more, with the acts in front of it
abbrev pub stepped : Result State TokenFault → Step Token → Result State TokenFault
stepped result s = and_then result (λ state. all_done s.acts (Some s.token) state)

-- tokens in turn
abbrev pub run : List (Step Token) → Result State TokenFault
run steps = fold stepped (Ok start) steps

-- behind these steps, these acts in front of this token or of the end
abbrev pub answer : List (Step Token) → List ℕ → Option (Placed Token) → Result State TokenFault
answer steps acts next = and_then (run steps) (λ state. all_done acts next state)
