-- Tokens derive exactly where their classes do, and with the same events. So a parser needs classes only.
use Rattle.std.proofs.Common.{◌≡◌, ℕ, List, [], ◌∷◌, map, refl, sym, ap, ◌∙◌, subst}
use Rattle.grammar.specs.Derivations.{Derives, DerivesOf, Event}
use Rattle.grammar.specs.Derivations.DerivesOf.{act, need, nothing, rule}
use Rattle.grammar.specs.Derivations.Event.{Do, Take}
use Rattle.grammar.specs.Grammars.{Entry}
use Rattle.grammar.specs.Lowering.{lower, tokens_of}
use Rattle.grammar.specs.declared.symbol.Symbol.{Symbol}

pub lowered : {X : Type 0} {class_of : X → ℕ} {g : List Entry} {ss : List Symbol} {xs : List X} {es : List (Event X)} → DerivesOf class_of g ss xs es → Derives g ss (map class_of xs) (map (lower class_of) es)
lowered nothing = nothing
lowered (need h d) = need h (lowered d)
lowered (act d) = act (lowered d)
lowered (rule row a d) = rule row a (lowered d)

-- the events of a derivation take its tokens
pub taken : {X : Type 0} {class_of : X → ℕ} {g : List Entry} {ss : List Symbol} {xs : List X} {es : List (Event X)} → DerivesOf class_of g ss xs es → tokens_of es ≡ xs
taken nothing = refl
taken {X = X} (need {x = x} h d) = ap (λ (xs : List X). x ∷ xs) (taken d)
taken (act d) = taken d
taken (rule row a d) = taken d

-- the classes of tokens derive, so the tokens do
pub record Raises {X : Type 0} (class_of : X → ℕ) (g : List Entry) (ss : List Symbol) (xs : List X) (low : List (Event ℕ)) : Type 0 where
  pub events : List (Event X)
  pub lowers : map (lower class_of) events ≡ low
  pub derives : DerivesOf class_of g ss xs events

raised_from : {X : Type 0} (class_of : X → ℕ) {g : List Entry} {ss : List Symbol} {classes : List ℕ} {low : List (Event ℕ)} (xs : List X) → classes ≡ map class_of xs → Derives g ss classes low → Raises class_of g ss xs low
raised_from class_of [] e nothing = record { events = []; lowers = refl; derives = nothing }
raised_from class_of (x ∷ xs) e nothing = absurd (cc)
raised_from class_of [] e (need h d) = absurd (cc)
raised_from class_of (x ∷ xs) e (need {x = class} {xs = classes} h d) =
    let same : class ≡ class_of x = cc in
    let it = raised_from class_of xs (cc) d in
    record { events = Take x ∷ it.events; lowers = (λ i. Take (sym same i) ∷ it.lowers i); derives = need (sym same ∙ h) it.derives }
raised_from class_of xs e (act {a = a} d) =
    let it = raised_from class_of xs e d in
    record { events = Do a ∷ it.events; lowers = ap (λ (es : List (Event ℕ)). Do a ∷ es) it.lowers; derives = act it.derives }
raised_from class_of xs e (rule row a d) =
    let it = raised_from class_of xs e d in
    record { events = it.events; lowers = it.lowers; derives = rule row a it.derives }

pub raised : {X : Type 0} (class_of : X → ℕ) {g : List Entry} {ss : List Symbol} {low : List (Event ℕ)} (xs : List X) → Derives g ss (map class_of xs) low → Raises class_of g ss xs low
raised class_of xs d = raised_from class_of xs refl d

-- events with the same tokens and the same classes are the same
pub same_events : {X : Type 0} (class_of : X → ℕ) (es fs : List (Event X)) → tokens_of es ≡ tokens_of fs → map (lower class_of) es ≡ map (lower class_of) fs → es ≡ fs
same_events class_of [] [] t l = refl
same_events class_of [] (f ∷ fs) t l = absurd (cc)
same_events class_of (e ∷ es) [] t l = absurd (cc)
same_events class_of (Take x ∷ es) (Take y ∷ fs) t l = λ i. Take (let same : x ≡ y = cc in same i) ∷ same_events class_of es fs (cc) (cc) i
same_events class_of (Take x ∷ es) (Do a ∷ fs) t l = absurd (cc)
same_events class_of (Do a ∷ es) (Take x ∷ fs) t l = absurd (cc)
same_events class_of (Do a ∷ es) (Do b ∷ fs) t l = λ i. Do (let same : a ≡ b = cc in same i) ∷ same_events class_of es fs t (cc) i

-- these tokens derive with these events, since their classes do
pub raised_events : {X : Type 0} (class_of : X → ℕ) {g : List Entry} {ss : List Symbol} (es : List (Event X)) → Derives g ss (map class_of (tokens_of es)) (map (lower class_of) es) → DerivesOf class_of g ss (tokens_of es) es
raised_events class_of {g = g} {ss = ss} es d =
    let it = raised class_of (tokens_of es) d in
    subst (DerivesOf class_of g ss (tokens_of es)) (same_events class_of it.events es (taken it.derives) it.lowers) it.derives
