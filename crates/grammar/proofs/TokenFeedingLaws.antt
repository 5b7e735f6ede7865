-- What was fed is kept from one token to the next, and at the end the tokens derive with these events and no others.
use Rattle.std.proofs.Common.{◌≡◌, ℕ, List, [], ◌∷◌, ◌++◌, map, refl, sym, ap, ◌∙◌, subst}
use Rattle.std.proofs.lemmas.List.{append-nil, map-append}
use Rattle.grammar.specs.Derivations.{Derives, DerivesOf, Event, Lives}
use Rattle.grammar.specs.Derivations.Event.{Do, Take}
use Rattle.grammar.specs.Feeding.{Fed}
use Rattle.grammar.proofs.FeedingLaws.{fed_ends, fed_more, fed_nothing, fed_one_way}
use Rattle.grammar.specs.Grammars.{Entry}
use Rattle.grammar.specs.Lowering.{lower, tokens_of}
use Rattle.grammar.proofs.LoweringLaws.{lowered, raised_events, same_events, taken}
use Rattle.grammar.specs.Parsing.{Ends, Feeds, Parsing}
use Rattle.grammar.specs.TokenFeeding.{FedTokens}
use Rattle.grammar.specs.declared.symbol.Symbol.{Symbol}

-- ---- the tokens of events, and their classes

tokens-append : {X : Type 0} (es fs : List (Event X)) → tokens_of (es ++ fs) ≡ tokens_of es ++ tokens_of fs
tokens-append [] fs = refl
tokens-append {X = X} (Take x ∷ es) fs = ap (λ (l : List X). x ∷ l) (tokens-append es fs)
tokens-append (Do a ∷ es) fs = tokens-append es fs

no_tokens : {X : Type 0} (acts : List ℕ) (es : List (Event X)) → tokens_of (map Do acts ++ es) ≡ tokens_of es
no_tokens [] es = refl
no_tokens (a ∷ acts) es = no_tokens acts es

lower_acts : {X : Type 0} (class_of : X → ℕ) (acts : List ℕ) → map (lower class_of) (map Do acts) ≡ map Do acts
lower_acts class_of [] = refl
lower_acts class_of (a ∷ acts) = ap (λ (l : List (Event ℕ)). Do a ∷ l) (lower_acts class_of acts)

lower_given : {X : Type 0} (class_of : X → ℕ) (es : List (Event X)) (acts : List ℕ) (x : X) → map (lower class_of) (es ++ (map Do acts ++ Take x ∷ [])) ≡ map (lower class_of) es ++ (map Do acts ++ Take (class_of x) ∷ [])
lower_given class_of es acts x =
    map-append (lower class_of) es (map Do acts ++ Take x ∷ [])
    ∙ ap (λ (l : List (Event ℕ)). map (lower class_of) es ++ l) (map-append (lower class_of) (map Do acts) (Take x ∷ []) ∙ ap (λ (l : List (Event ℕ)). l ++ Take (class_of x) ∷ []) (lower_acts class_of acts))

lower_last : {X : Type 0} (class_of : X → ℕ) (es : List (Event X)) (acts : List ℕ) → map (lower class_of) (es ++ map Do acts) ≡ map (lower class_of) es ++ map Do acts
lower_last class_of es acts =
    map-append (lower class_of) es (map Do acts) ∙ ap (λ (l : List (Event ℕ)). map (lower class_of) es ++ l) (lower_acts class_of acts)

-- ---- one token after another

-- before the first token
pub fed_no_tokens : {X : Type 0} (class_of : X → ℕ) (g : List Entry) (start : List Symbol) → Lives g start → FedTokens class_of g start [] [] start
fed_no_tokens class_of g start it = record { fed = fed_nothing g start it; taken = refl }

-- one token more
pub fed_token : {X : Type 0} {class_of : X → ℕ} {g : List Entry} {start : List Symbol} {tokens : List X} {events : List (Event X)} {old new : Parsing} {before after : List ℕ} → FedTokens class_of g start tokens events old.expected → (x : X) → (f : Feeds g old (class_of x) before new after) → FedTokens class_of g start (tokens ++ x ∷ []) (events ++ (map Do f.given ++ Take x ∷ [])) new.expected
fed_token {X = X} {class_of = class_of} {g = g} {start = start} {tokens = tokens} {events = events} {new = new} it x f = record {
  fed =
      subst (λ (cs : List ℕ). Fed g start cs (map (lower class_of) (events ++ (map Do f.given ++ Take x ∷ []))) new.expected) (sym (map-append class_of tokens (x ∷ [])))
      (subst (λ (es : List (Event ℕ)). Fed g start (map class_of tokens ++ class_of x ∷ []) es new.expected) (sym (lower_given class_of events f.given x))
      (fed_more it.fed f));
  taken = tokens-append events (map Do f.given ++ Take x ∷ []) ∙ ap (λ (l : List X). tokens_of events ++ l) (no_tokens f.given (Take x ∷ [])) ∙ ap (λ (l : List X). l ++ x ∷ []) it.taken;
}

-- ---- the end

taken_last : {X : Type 0} (tokens : List X) (events : List (Event X)) (acts : List ℕ) → tokens_of events ≡ tokens → tokens_of (events ++ map Do acts) ≡ tokens
taken_last {X = X} tokens events acts e =
    tokens-append events (map Do acts)
    ∙ ap (λ (l : List X). tokens_of events ++ l) (ap (λ (l : List (Event X)). tokens_of l) (sym (append-nil (map Do acts))) ∙ no_tokens acts [])
    ∙ append-nil (tokens_of events) ∙ e

pub tokens_derive : {X : Type 0} {class_of : X → ℕ} {g : List Entry} {start : List Symbol} {tokens : List X} {events : List (Event X)} {old new : Parsing} {before after : List ℕ} → FedTokens class_of g start tokens events old.expected → (e : Ends g old before new after) → DerivesOf class_of g start tokens (events ++ map Do e.given)
tokens_derive {X = X} {class_of = class_of} {g = g} {start = start} {tokens = tokens} {events = events} it e =
    let same = taken_last tokens events e.given it.taken in
    let classes = subst (Derives g start (map class_of tokens)) (sym (lower_last class_of events e.given)) (fed_ends it.fed e) in
    subst (λ (l : List X). DerivesOf class_of g start l (events ++ map Do e.given)) same
    (raised_events class_of (events ++ map Do e.given) (subst (λ (l : List X). Derives g start (map class_of l) (map (lower class_of) (events ++ map Do e.given))) (sym same) classes))

pub tokens_derive_one_way : {X : Type 0} {class_of : X → ℕ} {g : List Entry} {start : List Symbol} {tokens : List X} {events : List (Event X)} {old new : Parsing} {before after : List ℕ} → FedTokens class_of g start tokens events old.expected → (e : Ends g old before new after) → (es : List (Event X)) → DerivesOf class_of g start tokens es → es ≡ events ++ map Do e.given
tokens_derive_one_way {class_of = class_of} {tokens = tokens} {events = events} it e es d =
    same_events class_of es (events ++ map Do e.given) (taken d ∙ sym (taken_last tokens events e.given it.taken))
    (fed_one_way it.fed e (map (lower class_of) es) (lowered d) ∙ sym (lower_last class_of events e.given))
