-- The acts that a parser gives find what they need.
use Rattle.std.proofs.Common.{◌≡◌, ℕ, List, [], ◌∷◌, ◌++◌, map, None, Option, Some, refl, sym, ap, ◌∙◌, append_assoc}
use Rattle.std.specs.Option.{option_map}
use Rattle.std.proofs.lemmas.List.{map-append}
use Rattle.grammar.specs.Derivations.{Event}
use Rattle.grammar.specs.Derivations.Event.{Do, Take}
use Rattle.grammar.proofs.FeedingLaws.{fed_ends, fed_more}
use Rattle.grammar.specs.Lowering.{lower}
use Rattle.owl_tokens.specs.declared.token.Token.{Token}
use Rattle.fss_grammar.specs.Classes.{class_of}
use Rattle.fss_grammar.specs.ReadyActs.{next_class, FedActsAreReady, FindsAll, IsActReady, LastActsAreReady}
use Rattle.fss_grammar.specs.Making.{Maker}
use Rattle.fss_grammar.proofs.ReadyLaws.{acts_are_ready}

-- a token that comes behind acts
next_behind : (acts : List ℕ) (class : ℕ) (es : List (Event ℕ)) → next_class (map Do acts ++ Take class ∷ es) ≡ Some class
next_behind [] class es = refl
next_behind (a ∷ acts) class es = next_behind acts class es

none_behind : (acts : List ℕ) → next_class (map Do acts) ≡ None
none_behind [] = refl
none_behind (a ∷ acts) = none_behind acts

acts_lowered : (acts : List ℕ) → map (lower class_of) (map Do acts) ≡ map Do acts
acts_lowered [] = refl
acts_lowered (a ∷ acts) = ap (λ (l : List (Event ℕ)). Do a ∷ l) (acts_lowered acts)

-- what was given, cut in front of an act
cut_at : (events : List (Event Token)) (given performed : List ℕ) (a : ℕ) (left : List ℕ) → given ≡ performed ++ a ∷ left → map (lower class_of) events ++ map Do given ≡ map (lower class_of) (events ++ map Do performed) ++ Do a ∷ map Do left
cut_at events given performed a left e =
    let given_are : map Do given ≡ map Do performed ++ Do a ∷ map Do left = ap (λ (l : List ℕ). map Do l) e ∙ map-append Do performed (a ∷ left) in
    let before : map (lower class_of) (events ++ map Do performed) ≡ map (lower class_of) events ++ map Do performed =
    map-append (lower class_of) events (map Do performed) ∙ ap (λ (l : List (Event ℕ)). map (lower class_of) events ++ l) (acts_lowered performed) in
    ap (λ (l : List (Event ℕ)). map (lower class_of) events ++ l) given_are
    ∙ sym (append_assoc (map (lower class_of) events) (map Do performed) (Do a ∷ map Do left))
    ∙ ap (λ (l : List (Event ℕ)). l ++ Do a ∷ map Do left) (sym before)

-- and what comes behind it
cut_before : (events : List (Event Token)) (given performed : List ℕ) (a : ℕ) (left : List ℕ) (class : ℕ) (es : List (Event ℕ)) → given ≡ performed ++ a ∷ left → (map (lower class_of) events ++ (map Do given ++ Take class ∷ [])) ++ es ≡ map (lower class_of) (events ++ map Do performed) ++ Do a ∷ (map Do left ++ Take class ∷ es)
cut_before events given performed a left class es e =
    append_assoc (map (lower class_of) events) (map Do given ++ Take class ∷ []) es
    ∙ ap (λ (l : List (Event ℕ)). map (lower class_of) events ++ l) (append_assoc (map Do given) (Take class ∷ []) es)
    ∙ sym (append_assoc (map (lower class_of) events) (map Do given) (Take class ∷ es))
    ∙ ap (λ (l : List (Event ℕ)). l ++ Take class ∷ es) (cut_at events given performed a left e)
    ∙ append_assoc (map (lower class_of) (events ++ map Do performed)) (Do a ∷ map Do left) (Take class ∷ es)

finds_all : (a : ℕ) (class : Option ℕ) (next : Option Token) (m : Maker) → option_map class_of next ≡ class → IsActReady a class m → FindsAll a next m
finds_all a class next m e it = record { act = it.act; number_is = it.number_is; ready = it.ready next e }

pub fed_acts_are_ready : FedActsAreReady
fed_acts_are_ready tokens events old new x before after it f performed a left e m looks =
    let fed = fed_more it.fed f in
    let rest = map Do left ++ Take (class_of x) ∷ fed.lives.events in
    finds_all a (next_class rest) (Some x) m (sym (next_behind left (class_of x) fed.lives.events))
    (acts_are_ready _ _ (fed.leads.all fed.lives.tokens fed.lives.events fed.lives.derives) (events ++ map Do performed) a rest
    (cut_before events f.given performed a left (class_of x) fed.lives.events e) m looks)

pub last_acts_are_ready : LastActsAreReady
last_acts_are_ready tokens events old new before after it end performed a left e m looks =
    finds_all a (next_class (map Do left)) None m (sym (none_behind left))
    (acts_are_ready _ _ (fed_ends it.fed end) (events ++ map Do performed) a (map Do left) (cut_at events end.given performed a left e) m looks)
