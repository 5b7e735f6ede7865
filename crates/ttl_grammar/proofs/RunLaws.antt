-- What a run is made of: the tokens that are taken, each with the acts in front of it, and the last acts.
use Rattle.std.proofs.Common.{◌≡◌, ℕ, List, [], ◌∷◌, ◌++◌, map, Option, None, Some, Result, Ok, Err, refl, sym, ap, ◌∙◌}
use Rattle.std.specs.List.{fold}
use Rattle.std.proofs.lemmas.List.{append_assoc}
use Rattle.grammar.specs.Derivations.{Event}
use Rattle.grammar.specs.Derivations.Event.{Do, Take}
use Rattle.owl_reader.specs.Steps.{Step, events_of}
use Rattle.owl_reader.specs.declared.fault.TokenFault.{TokenFault}
use Rattle.ttl_tokens.specs.declared.token.Token.{Token}
use Rattle.ttl_grammar.specs.Acts.{act_numbered}
use Rattle.ttl_grammar.specs.Runs.{all_done, and_then, coming, done, done_next, run}
use Rattle.ttl_grammar.specs.States.{State}

failed_stays : (next : Option Token) (fault : TokenFault) (acts : List ℕ) → fold (done_next next) (Err fault) acts ≡ Err fault
failed_stays next fault [] = refl
failed_stays next fault (a ∷ acts) = failed_stays next fault acts

coming_behind : (acts : List ℕ) (x : Token) (more : List (Event Token)) → coming (map Do acts ++ Take x ∷ more) ≡ Some x
coming_behind [] x more = refl
coming_behind (a ∷ acts) x more = coming_behind acts x more

coming_none : (acts : List ℕ) → coming (map Do acts) ≡ None
coming_none [] = refl
coming_none (a ∷ acts) = coming_none acts

-- acts in front of a token
pub run_acts : (acts : List ℕ) (x : Token) (more : List (Event Token)) (r : Result State TokenFault) → and_then r (λ s. run (map Do acts ++ Take x ∷ more) s) ≡ and_then (fold (done_next (Some x)) r acts) (λ s. run more s)
run_acts acts x more (Err fault) = sym (ap (λ r. and_then r (λ s. run more s)) (failed_stays (Some x) fault acts))
run_acts [] x more (Ok s) = refl
run_acts (a ∷ acts) x more (Ok s) =
    ap (λ next. and_then (done (act_numbered a) next s) (λ t. run (map Do acts ++ Take x ∷ more) t)) (coming_behind acts x more)
    ∙ run_acts acts x more (done (act_numbered a) (Some x) s)

-- acts in front of the end
pub run_last : (acts : List ℕ) (r : Result State TokenFault) → and_then r (λ s. run (map Do acts) s) ≡ fold (done_next None) r acts
run_last acts (Err fault) = sym (failed_stays None fault acts)
run_last [] (Ok s) = refl
run_last (a ∷ acts) (Ok s) =
    ap (λ next. and_then (done (act_numbered a) next s) (λ t. run (map Do acts) t)) (coming_none acts)
    ∙ run_last acts (done (act_numbered a) None s)

pub run_nothing : (r : Result State TokenFault) → and_then r (λ s. run [] s) ≡ r
run_nothing (Ok s) = refl
run_nothing (Err fault) = refl

-- Tokens with the acts in front of them, and then the rest: a front ends with a token, so its acts see nothing of the rest.
pub run_steps : (steps : List (Step Token)) (more : List (Event Token)) (r : Result State TokenFault) → and_then r (λ s. run (events_of steps ++ more) s) ≡ and_then (and_then r (λ s. run (events_of steps) s)) (λ s. run more s)
run_steps steps more (Err fault) = refl
run_steps [] more (Ok s) = refl
run_steps (step ∷ steps) more (Ok s) =
    let x = step.token.token in
    let here = all_done step.acts (Some x) s in
    ap (λ (l : List (Event Token)). run l s) (append_assoc (map Do step.acts) (Take x ∷ events_of steps) more)
    ∙ run_acts step.acts x (events_of steps ++ more) (Ok s)
    ∙ run_steps steps more here
    ∙ sym (ap (λ (r : Result State TokenFault). and_then r (λ t. run more t)) (run_acts step.acts x (events_of steps) (Ok s)))
