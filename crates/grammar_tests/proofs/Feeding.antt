-- What was fed, one token after another, with its events.
use Rattle.std.proofs.Common.{◌≡◌, ℕ, true, Result, Ok, Err, List, [], ◌∷◌, ◌++◌, length, map, take, drop, get_or, refl, sym, ap, ◌∙◌, subst, ◌<◌, ◌+◌, arith}
use Rattle.std.specs.Prelude.{IfErr}
use Rattle.std.proofs.lemmas.List.{append_assoc, drop_more, length-take-le, map-append, take-append-drop}
use Rattle.grammar.specs.Derivations.{Event}
use Rattle.grammar.specs.Derivations.Event.{Do, Take}
use Rattle.grammar.specs.Feeding.{DefectAt}
use Rattle.grammar.proofs.FeedingLaws.{defect_at_end, defect_at_token, fed_ends, fed_more, fed_one_way, fed_start}
use Rattle.grammar.specs.Grammars.{has_rule}
use Rattle.grammar.specs.Parsing.{Ends, Feeds, NeedsMore, Parsing, Refuses, expects}
use Rattle.grammar.specs.declared.fault.ParseFault.{ParseFault}
use Rattle.grammar.specs.declared.fault.ParseFault.TheVariants.{Unexpected}
use Rattle.grammar_tests.specs.Events.{IsFed, IsSentence, events_seen, event_seen, start}
use Rattle.grammar_tests.specs.ItemsTable.{items, items_is_predictive, items_is_productive, items_item}
use Rattle.grammar_tests.specs.declared.sentence.Event as code
use Rattle.grammar_tests.specs.declared.sentence.Event.TheVariants as code_event

-- acts were given to an empty list, and were moved to the events
given_is : (before given after : List ℕ) → before ≡ [] → after ≡ before ++ given → after ≡ given
given_is before given after e h = h ∙ ap (λ (l : List ℕ). l ++ given) e

token_pushed : (one two three : List code.Event) (acts : List ℕ) (class : ℕ) → events_seen two ≡ events_seen one ++ map Do acts → three ≡ two ++ code_event.Take class ∷ [] → events_seen three ≡ events_seen one ++ (map Do acts ++ Take class ∷ [])
token_pushed one two three acts class e h =
    ap (λ (l : List code.Event). map event_seen l) h ∙ map-append event_seen two (code_event.Take class ∷ [])
    ∙ ap (λ (l : List (Event ℕ)). l ++ Take class ∷ []) e ∙ append_assoc (events_seen one) (map Do acts) (Take class ∷ [])

pub fed_token : (front : List ℕ) (old new : Parsing) (class : ℕ) (before acts : List ℕ) (one two three : List code.Event) → before ≡ [] → Feeds items old class before new acts → events_seen two ≡ events_seen one ++ map Do acts → three ≡ two ++ code_event.Take class ∷ [] → IsFed front (events_seen one) old → IsFed (front ++ class ∷ []) (events_seen three) new
fed_token front old new class before acts one two three empty f moved pushed fed =
    let same = sym (given_is before f.given acts empty f.added) in
    let events : events_seen one ++ (map Do f.given ++ Take class ∷ []) ≡ events_seen three = ap (λ (l : List ℕ). events_seen one ++ (map Do l ++ Take class ∷ [])) same ∙ sym (token_pushed one two three acts class moved pushed) in
    subst (λ (l : List (Event ℕ)). IsFed (front ++ class ∷ []) l new) events (record { fed = fed_more fed.fed f; open_yet = f.is_open })

pub fed_end : (front : List ℕ) (old new : Parsing) (before acts : List ℕ) (one two : List code.Event) → before ≡ [] → Ends items old before new acts → events_seen two ≡ events_seen one ++ map Do acts → IsFed front (events_seen one) old → IsSentence front (events_seen two)
fed_end front old new before acts one two empty e moved fed =
    let same = sym (given_is before e.given acts empty e.added) in
    let events : events_seen one ++ map Do e.given ≡ events_seen two = ap (λ (l : List ℕ). events_seen one ++ map Do l) same ∙ sym moved in
    subst (IsSentence front) events (record { derives = fed_ends fed.fed e; only = fed_one_way fed.fed e })

pub wrong_token : (classes : List ℕ) (i : ℕ) (events : List (Event ℕ)) (parser : Parsing) → i < length classes → IsFed (take i classes) events parser → Refuses items parser.expected (get_or classes i 0) → DefectAt items start classes i
wrong_token classes i events parser h fed refused =
    let whole : take i classes ++ (get_or classes i 0 ∷ drop (i + 1) classes) ≡ classes = ap (λ (l : List ℕ). take i classes ++ l) (sym (drop_more classes i 0 h)) ∙ take-append-drop i classes in
    let place : length (take i classes) ≡ i = length-take-le i classes (omega arith) in
    subst (λ (l : List ℕ). DefectAt items start l i) whole
    (subst (DefectAt items start (take i classes ++ (get_or classes i 0 ∷ drop (i + 1) classes))) place
    (defect_at_token fed.fed (get_or classes i 0) (drop (i + 1) classes) refused))

pub wrong_end : (front : List ℕ) (events : List (Event ℕ)) (parser : Parsing) (told : Result (Unit {0}) ParseFault) → IsFed front events parser → IfErr told (λ fault. fault ≡ Unexpected → NeedsMore items parser.expected) → IfErr told (λ fault. fault ≡ Unexpected → DefectAt items start front (length front))
wrong_end front events parser (Ok x) fed h = tt
wrong_end front events parser (Err fault) fed h = λ e. defect_at_end fed.fed (h e)

pub item_is_a_rule : has_rule items 0 ≡ true
unfolding items items_item
item_is_a_rule = refl

pub fed_nothing_yet : (parser : Parsing) (events : List code.Event) → parser ≡ expects start → events ≡ [] → IsFed [] (events_seen events) parser
fed_nothing_yet parser events is none =
    subst (λ (l : List code.Event). IsFed [] (events_seen l) parser) (sym none)
    (subst (IsFed [] []) (sym is) (record { fed = fed_start items items_is_predictive items_is_productive 0 item_is_a_rule; open_yet = refl }))
