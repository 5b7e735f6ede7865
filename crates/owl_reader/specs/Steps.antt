-- Tokens, each with the acts in front of it.
use Rattle.std.specs.Prelude.{ℕ, Option, List, [], ◌∷◌, ◌++◌, map}
use Rattle.std.specs.Option.{option_map}
use Rattle.grammar.specs.Derivations.{Event}
use Rattle.grammar.specs.Derivations.Event.{Do, Take}
use Rattle.owl_lexer.specs.declared.placed.Placed.{Placed}

-- a token, and the acts that are done in front of it
pub record Step (T : Type 0) : Type 0 where
  pub acts : List ℕ
  pub token : Placed T

abbrev pub events_of : {T : Type 0} → List (Step T) → List (Event T)
events_of [] = []
events_of (s ∷ steps) = map Do s.acts ++ (Take s.token.token ∷ events_of steps)

abbrev pub tokens_in : {T : Type 0} → List (Step T) → List (Placed T)
tokens_in {T} steps = map (λ (s : Step T). s.token) steps

-- the same without their places
abbrev pub plain : {T : Type 0} → List (Step T) → List T
plain {T} steps = map (λ (s : Step T). s.token.token) steps

-- the token that comes next, without its place
abbrev pub token_in : {T : Type 0} → Option (Placed T) → Option T
token_in {T} next = option_map (λ (p : Placed T). p.token) next
