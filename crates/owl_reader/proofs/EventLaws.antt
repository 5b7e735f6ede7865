-- Syntaxes whose tokens say the same wherever they stand: from events to the steps that have them.
use Rattle.std.proofs.Common.{◌≡◌, ◌≢◌, ℕ, Option, None, Some, Result, Ok, Err, OnOk, IfErr, List, [], ◌∷◌, ◌++◌, map, refl, sym, ap, ◌∙◌, subst}
use Rattle.std.proofs.lemmas.List.{append_assoc}
use Rattle.grammar.specs.Derivations.{Event}
use Rattle.grammar.specs.Derivations.Event.{Do, Take}
use Rattle.owl_lexer.specs.declared.placed.Placed.{Placed}
use Rattle.owl_reader.specs.Events.{BarsByEvents, MadeByEvents, WholeByEvents}
use Rattle.owl_reader.specs.Following.{GoesOn}
use Rattle.owl_reader.specs.Steps.{Step, events_of, token_in}
use Rattle.owl_reader.specs.declared.fault.TokenFault.{TokenFault}
use Rattle.owl_reader.specs.declared.fault.TokenFault.TheVariants.{Memory}

pub events-append : {T : Type 0} (xs ys : List (Step T)) → events_of (xs ++ ys) ≡ events_of xs ++ events_of ys
events-append [] ys = refl
events-append {T} (s ∷ xs) ys =
    ap (λ (l : List (Event T)). map Do s.acts ++ (Take s.token.token ∷ l)) (events-append xs ys)
    ∙ sym (append_assoc (map Do s.acts) (Take s.token.token ∷ events_of xs) (events_of ys))

-- with one step more
pub events_with : {T : Type 0} (steps : List (Step T)) (s : Step T) → events_of (steps ++ s ∷ []) ≡ events_of steps ++ (map Do s.acts ++ Take s.token.token ∷ [])
events_with steps s = events-append steps (s ∷ [])

-- Behind these events the acts were done, and the token was taken; or the acts were done in front of the end.
abbrev pub EventsGoOn : {T S : Type 0} → (List (Event T) → S → Type 0) → (List (Event T) → S → Type 0) → List (Event T) → List ℕ → Option T → S → Type 0
EventsGoOn Made Whole events acts (Some x) made = Made (events ++ (map Do acts ++ Take x ∷ [])) made
EventsGoOn Made Whole events acts None made = Whole (events ++ map Do acts) made

module _ {T S : Type 0} (Made Whole : List (Event T) → S → Type 0) where
  steps_go_on : (steps : List (Step T)) (acts : List ℕ) (next : Option (Placed T)) (made : S) → EventsGoOn Made Whole (events_of steps) acts (token_in next) made → GoesOn (MadeByEvents Made) (WholeByEvents Whole) steps acts next made
  steps_go_on steps acts (Some p) made h = subst (λ (es : List (Event T)). Made es made) (sym (events_with steps (record { acts = acts; token = p }))) h
  steps_go_on steps acts None made h = h

-- The clauses of a syntax, where this is the token that comes.
module _ {T S : Type 0} (Made Whole : List (Event T) → S → Type 0) (Follows : List (Event T) → Option T → Type 0) (acts : List ℕ) (next : Option (Placed T)) (x : Option T) (same : x ≡ token_in next) (old : S) where
  pub steps_taken : (new : S) (r : Result (Unit {0}) TokenFault) → OnOk r ((events : List (Event T)) → Made events old → Follows events x → EventsGoOn Made Whole events acts x new) → OnOk r ((steps : List (Step T)) → MadeByEvents Made steps old → Follows (events_of steps) (token_in next) → GoesOn (MadeByEvents Made) (WholeByEvents Whole) steps acts next new)
  steps_taken new (Ok done) h = λ steps m f.
      steps_go_on Made Whole steps acts next new
      (subst (λ (y : Option T). Follows (events_of steps) y → EventsGoOn Made Whole (events_of steps) acts y new) same (h (events_of steps) m) f)
  steps_taken new (Err fault) h = tt

  pub steps_free : (Bars : List (Event T) → List ℕ → Option T → TokenFault → Type 0) (r : Result (Unit {0}) TokenFault) → OnOk r ((events : List (Event T)) → Made events old → Follows events x → (fault : TokenFault) → Bars events acts x fault → ⊥) → OnOk r ((steps : List (Step T)) → MadeByEvents Made steps old → Follows (events_of steps) (token_in next) → (fault : TokenFault) → BarsByEvents Bars steps acts next fault → ⊥)
  steps_free Bars (Ok done) h = λ steps m f fault bars.
      (subst (λ (y : Option T). Follows (events_of steps) y → Bars (events_of steps) acts y fault → ⊥) same (λ g. h (events_of steps) m g fault)) f bars
  steps_free Bars (Err fault) h = tt

  pub steps_barred : (Bars : List (Event T) → List ℕ → Option T → TokenFault → Type 0) (r : Result (Unit {0}) TokenFault) → IfErr r (λ fault. fault ≢ Memory → (events : List (Event T)) → Made events old → Follows events x → Bars events acts x fault) → IfErr r (λ fault. fault ≢ Memory → (steps : List (Step T)) → MadeByEvents Made steps old → Follows (events_of steps) (token_in next) → BarsByEvents Bars steps acts next fault)
  steps_barred Bars (Ok done) h = tt
  steps_barred Bars (Err fault) h = λ other steps m f.
      (subst (λ (y : Option T). Follows (events_of steps) y → Bars (events_of steps) acts y fault) same (h other (events_of steps) m)) f

-- what a call answers in each context

pub ok_in_each : {C X E : Type 0} (P : C → Type 0) (r : Result X E) → ((context : C) → OnOk r (P context)) → OnOk r ((context : C) → P context)
ok_in_each P (Ok x) h = h
ok_in_each P (Err e) h = tt

pub err_in_each : {C X : Type 0} (P : C → TokenFault → Type 0) (r : Result X TokenFault) → ((context : C) → IfErr r (λ fault. fault ≢ Memory → P context fault)) → IfErr r (λ fault. fault ≢ Memory → (context : C) → P context fault)
err_in_each P (Ok x) h = tt
err_in_each P (Err e) h = λ other context. h context other
