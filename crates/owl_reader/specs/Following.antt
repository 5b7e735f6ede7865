-- What may follow steps, and what comes of it.
use Rattle.std.specs.Prelude.{◌≡◌, ℕ, Option, None, Some, List, [], ◌∷◌, ◌++◌, map, IfSome}
use Rattle.std.specs.Option.{option_map}
use Rattle.grammar.specs.Derivations.{Derives, Event}
use Rattle.grammar.specs.Derivations.Event.{Do, Take}
use Rattle.grammar.specs.Grammars.{Entry}
use Rattle.grammar.specs.Lowering.{lower}
use Rattle.grammar.specs.declared.symbol.Symbol.TheVariants.{Rule}
use Rattle.owl_lexer.specs.declared.placed.Placed.{Placed}
use Rattle.owl_reader.specs.Steps.{Step, events_of, token_in}
use Rattle.owl_reader.specs.Syntaxes.{Rules}

-- the first of these events is that a token of this class is taken, or there are none
abbrev pub ComesNext : List (Event ℕ) → Option ℕ → Type 0
ComesNext [] next = next ≡ None
ComesNext (Take c ∷ events) next = next ≡ Some c
ComesNext (Do a ∷ events) next = ⊥

-- Some document of the grammar has these events in front, then these acts, and then this token or the end.
pub record MayFollow {T : Type 0} (g : List Entry) (rules : Rules T) (events : List (Event T)) (acts : List ℕ) (next : Option T) : Type 0 where
  pub classes : List ℕ
  pub rest : List (Event ℕ)
  pub derives : Derives g (Rule rules.document ∷ []) classes (map (lower rules.class) events ++ (map Do acts ++ rest))
  pub comes : ComesNext rest (option_map rules.class next)

-- What this was made by is in front of these acts and this token in some document, and the token is written somehow.
pub record MayTake {T S : Type 0} (spells : T → List ℕ → Type 0) (g : List Entry) (rules : Rules T) (Made : List (Step T) → S → Type 0) (made : S) (acts : List ℕ) (next : Option (Placed T)) : Type 0 where
  pub steps : List (Step T)
  pub made_by : Made steps made
  pub follow : MayFollow g rules (events_of steps) acts (token_in next)
  pub spelled : IfSome next (λ p. (spelling : List ℕ) × spells p.token spelling)

-- Behind these steps the acts were done, and the token was taken; or the acts were done in front of the end.
abbrev pub GoesOn : {T S : Type 0} → (List (Step T) → S → Type 0) → (List (Step T) → List ℕ → S → Type 0) → List (Step T) → List ℕ → Option (Placed T) → S → Type 0
GoesOn Made Whole steps acts (Some p) made = Made (steps ++ record { acts = acts; token = p } ∷ []) made
GoesOn Made Whole steps acts None made = Whole steps acts made
