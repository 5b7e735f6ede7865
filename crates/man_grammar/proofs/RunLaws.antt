-- What runs, step by step.
use Rattle.std.proofs.Common.{◌≡◌, ℕ, List, [], ◌∷◌, ◌++◌, Option, Some, Result, Ok, Err, refl, sym, ap, ◌∙◌}
use Rattle.std.specs.List.{fold}
use Rattle.std.proofs.lemmas.List.Sums.{fold-append}
use Rattle.owl_lexer.specs.declared.placed.Placed.{Placed}
use Rattle.owl_reader.specs.Defects.{NoneBarred}
use Rattle.owl_reader.specs.Steps.{Step}
use Rattle.owl_reader.specs.declared.fault.TokenFault.{TokenFault}
use Rattle.owl_tokens.specs.declared.token.Token.{Token}
use Rattle.man_grammar.specs.Rules.{manchester_rules}
use Rattle.man_grammar.specs.Runs.{all_done, answer, run, stepped}
use Rattle.man_grammar.specs.States.{State, and_then, start}

-- one token more
pub run_more : (steps : List (Step Token)) (s : Step Token) → run (steps ++ s ∷ []) ≡ answer steps s.acts (Some s.token)
run_more steps s = fold-append stepped (Ok start) steps (s ∷ [])

-- a fault stays
fails_on : (f : TokenFault) (steps : List (Step Token)) → fold stepped (Err f) steps ≡ Err f
fails_on f [] = refl
fails_on f (s ∷ steps) = fails_on f steps

front_fails : (before : List (Step Token)) (s : Step Token) (after : List (Step Token)) (state : State) (f : TokenFault) → run (before ++ s ∷ after) ≡ Ok state → answer before s.acts (Some s.token) ≡ Err f → ⊥
front_fails before s after state f runs fails =
    let whole = sym runs ∙ fold-append stepped (Ok start) before (s ∷ after) ∙ ap (λ (r : Result State TokenFault). fold stepped r after) fails ∙ fails_on f after in
    cc

-- behind steps that run, none of their acts was barred
pub none_barred : (steps : List (Step Token)) (state : State) → run steps ≡ Ok state → NoneBarred manchester_rules steps
none_barred steps state runs before after s f parts bars =
    front_fails before s after state f (sym (ap run parts) ∙ runs) bars

-- what ran to a state
pub record Runs (steps : List (Step Token)) : Type 0 where
  pub state : State
  pub runs : run steps ≡ Ok state

ran_by : (acts : List ℕ) (r : Result State TokenFault) (state : State) (f : State → Result State TokenFault) → and_then r f ≡ Ok state → (before : State) × (r ≡ Ok before)
ran_by acts (Ok before) state f e = (before, refl)
ran_by acts (Err fault) state f e = absurd (cc)

pub answered_runs : (steps : List (Step Token)) (acts : List ℕ) (next : Option (Placed Token)) (state : State) → answer steps acts next ≡ Ok state → Runs steps
answered_runs steps acts next state e = let it = ran_by acts (run steps) state (λ s. all_done acts next s) e in record { state = it.0; runs = it.1 }
