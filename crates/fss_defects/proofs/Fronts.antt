-- In a predictive grammar, what begins with the same tokens begins with the same events.
use Rattle.std.proofs.Common.{◌≡◌, ℕ, List, [], ◌∷◌, ◌++◌, map, refl, sym, ap, ◌∙◌, subst}
use Rattle.grammar.specs.ClassSets.{Has}
use Rattle.grammar.specs.Derivations.{Derives, DerivesOf, Event, own_class}
use Rattle.grammar.specs.Derivations.DerivesOf.{act, need, nothing, rule}
use Rattle.grammar.specs.Derivations.Event.{Do, Take}
use Rattle.grammar.specs.Grammars.{Entry}
use Rattle.grammar.specs.Lowering.{lower, tokens_of}
use Rattle.grammar.proofs.LoweringLaws.{taken}
use Rattle.grammar.specs.Predictions.{AreFollowed, IsPredictive, ahead}
use Rattle.grammar.proofs.PredictiveLaws.{followed_row, predicted_row, row_mask}
use Rattle.grammar.specs.declared.symbol.Symbol.{Symbol}

-- the events are these, and then more that take these tokens
pub record GoesOn {X : Type 0} (front : List (Event X)) (more : List X) (es : List (Event X)) : Type 0 where
  pub rest : List (Event X)
  pub events_are : es ≡ front ++ rest
  pub takes : tokens_of rest ≡ more

-- what comes first is the same, where it is behind the same tokens
same_ahead : {X : Type 0} (class_of : X → ℕ) (front : List (Event X)) (rest : List (Event ℕ)) (more : List X) → ahead own_class (tokens_of rest) ≡ ahead class_of more → ahead own_class (tokens_of (map (lower class_of) front ++ rest)) ≡ ahead class_of (tokens_of front ++ more)
same_ahead class_of [] rest more h = h
same_ahead class_of (Take x ∷ front) rest more h = refl
same_ahead class_of (Do a ∷ front) rest more h = same_ahead class_of front rest more h

-- Two derivations, of which one has these events in front, and the other takes the same tokens, and then the same one.
pub goes_on : {X : Type 0} {class_of : X → ℕ} {g : List Entry} → IsPredictive g → {ss : List Symbol} {cs : List ℕ} {low : List (Event ℕ)} {xs : List X} {es : List (Event X)} → AreFollowed g ss → Derives g ss cs low → DerivesOf class_of g ss xs es → (front : List (Event X)) (rest : List (Event ℕ)) (more : List X) → low ≡ map (lower class_of) front ++ rest → xs ≡ tokens_of front ++ more → ahead own_class (tokens_of rest) ≡ ahead class_of more → GoesOn front more es
goes_on p {es = es} s d k [] rest more e f h = record { rest = es; events_are = refl; takes = taken k ∙ f }
goes_on p s nothing k (x ∷ front) rest more e f h = absurd (cc)
goes_on p s (need c d) (need k l) (Do a ∷ front) rest more e f h = absurd (cc)
goes_on {X = X} p s (need c d) (need {x = x} k l) (Take y ∷ front) rest more e f h =
    let same : x ≡ y = cc in
    let it = goes_on p s d l front rest more (cc) (cc) h in
    record { rest = it.rest; events_are = (λ i. Take (same i) ∷ it.events_are i); takes = it.takes }
goes_on p s (act d) (act l) (Take y ∷ front) rest more e f h = absurd (cc)
goes_on {X = X} p s (act d) (act {a = a} l) (Do b ∷ front) rest more e f h =
    let same : a ≡ b = cc in
    let it = goes_on p s d l front rest more (cc) f h in
    record { rest = it.rest; events_are = (λ i. Do (same i) ∷ it.events_are i); takes = it.takes }
goes_on {class_of = class_of} {g = g} p {cs = cs} {low = low} {xs = xs} s (rule {r = r} {ss = ss} row a d) l (x ∷ front) rest more e f h =
    let first : ahead own_class cs ≡ ahead class_of xs =
    ap (ahead own_class) (sym (taken d) ∙ ap (λ (l : List (Event ℕ)). tokens_of l) e)
    ∙ same_ahead class_of (x ∷ front) rest more h ∙ sym (ap (ahead class_of) f) in
    let mask = subst (λ (n : ℕ). Has row.mask n) first (row_mask p r ss s row a d) in
    goes_on p (followed_row p r ss row a s) d (predicted_row p s row a mask l) (x ∷ front) rest more e f h
