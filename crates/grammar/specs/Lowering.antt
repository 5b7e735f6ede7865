-- From tokens to their classes.
use Rattle.std.specs.Prelude.{ℕ, List, [], ◌∷◌}
use Rattle.grammar.specs.Derivations.{Event}
use Rattle.grammar.specs.Derivations.Event.{Do, Take}

-- an event with the class of the token that is taken
abbrev pub lower : {X : Type 0} → (X → ℕ) → Event X → Event ℕ
lower class_of (Take x) = Take (class_of x)
lower class_of (Do a) = Do a

-- the tokens that are taken
abbrev pub tokens_of : {X : Type 0} → List (Event X) → List X
tokens_of [] = []
tokens_of (Take x ∷ es) = x ∷ tokens_of es
tokens_of (Do a ∷ es) = tokens_of es
