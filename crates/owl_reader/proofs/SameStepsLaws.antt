-- Tokens tell which acts stand in front of each: in a predictive grammar documents that begin with the same tokens begin with
-- the same events.
use Rattle.std.proofs.Common.{◌≡◌, ℕ, true, List, [], ◌∷◌, ◌++◌, map, Option, None, Some, refl, sym, ap, ◌∙◌, subst}
use Rattle.std.proofs.lemmas.List.{append_assoc, append_cancel_left, append-nil}
use Rattle.grammar.specs.Derivations.{Begins, Derives, Event, own_class}
use Rattle.grammar.specs.Derivations.DerivesOf.{act, need, nothing, rule}
use Rattle.grammar.specs.Derivations.Event.{Do, Take}
use Rattle.grammar.specs.Grammars.{Entry, has_rule}
use Rattle.grammar.specs.ClassSets.{Has}
use Rattle.grammar.specs.Lowering.{lower, tokens_of}
use Rattle.grammar.proofs.LoweringLaws.{taken}
use Rattle.grammar.specs.Predictions.{AreFollowed, IsPredictive, ahead}
use Rattle.grammar.proofs.PredictiveLaws.{followed_row, followed_start, one_way, predicted_row, row_mask}
use Rattle.grammar.specs.declared.symbol.Symbol.{Symbol}
use Rattle.grammar.specs.declared.symbol.Symbol.TheVariants.{Rule}
use Rattle.owl_reader.specs.Defects.{Begin}
use Rattle.owl_reader.specs.Following.{ComesNext, MayFollow}
use Rattle.owl_reader.specs.Steps.{Step, events_of, plain, tokens_in}
use Rattle.owl_reader.specs.Syntaxes.{Rules}

-- ---- events that begin alike

-- Up to so many tokens as there are classes here, the events are the same.
abbrev BeginAlike : List ℕ → List (Event ℕ) → List (Event ℕ) → Type 0
BeginAlike [] es fs = Unit {0}
BeginAlike (c ∷ cs) (Take x ∷ es) (Take y ∷ fs) = (x ≡ y) × BeginAlike cs es fs
BeginAlike (c ∷ cs) (Do a ∷ es) (Do b ∷ fs) = (a ≡ b) × BeginAlike (c ∷ cs) es fs
BeginAlike (c ∷ cs) _ _ = ⊥

same_ahead : (c : ℕ) (cs xs ys more others : List ℕ) → xs ≡ (c ∷ cs) ++ more → ys ≡ (c ∷ cs) ++ others → ahead own_class xs ≡ ahead own_class ys
same_ahead c cs xs ys more others e f = ap (λ (l : List ℕ). ahead own_class l) e ∙ sym (ap (λ (l : List ℕ). ahead own_class l) f)

begin_alike : {g : List Entry} → IsPredictive g → {ss : List Symbol} {xs ys : List ℕ} {es fs : List (Event ℕ)} → AreFollowed g ss → (cs more others : List ℕ) → xs ≡ cs ++ more → ys ≡ cs ++ others → Derives g ss xs es → Derives g ss ys fs → BeginAlike cs es fs
begin_alike p s [] more others e f d k = tt
begin_alike p s (c ∷ cs) more others e f nothing k = absurd (cc)
begin_alike p s (c ∷ cs) more others e f (need h d) (need k l) = (h ∙ sym k, begin_alike p s cs more others (cc) (cc) d l)
begin_alike p s (c ∷ cs) more others e f (act d) (act l) = (refl, begin_alike p s (c ∷ cs) more others e f d l)
begin_alike {g = g} p {xs = xs} {ys = ys} s (c ∷ cs) more others e f (rule {r = r} {ss = ss} row a d) l =
    let mask = subst (λ (n : ℕ). Has row.mask n) (same_ahead c cs xs ys more others e f) (row_mask p r ss s row a d) in
    begin_alike p (followed_row p r ss row a s) (c ∷ cs) more others e f d (predicted_row p s row a mask l)

-- acts in front of a token
same_acts : {T : Type 0} (class : T → ℕ) (c : ℕ) (cs acts others : List ℕ) (x y : T) (es fs : List (Event T)) (rest last : List (Event ℕ)) → BeginAlike (c ∷ cs) (map (lower class) (map Do acts ++ Take x ∷ es) ++ rest) (map (lower class) (map Do others ++ Take y ∷ fs) ++ last) → (acts ≡ others) × BeginAlike cs (map (lower class) es ++ rest) (map (lower class) fs ++ last)
same_acts class c cs [] [] x y es fs rest last h = (refl, h.1)
same_acts class c cs [] (b ∷ others) x y es fs rest last h = absurd h
same_acts class c cs (a ∷ acts) [] x y es fs rest last h = absurd h
same_acts class c cs (a ∷ acts) (b ∷ others) x y es fs rest last h =
    let it = same_acts class c cs acts others x y es fs rest last h.1 in
    ((λ i. h.0 i ∷ it.0 i), it.1)

-- tokens with the acts in front of them, and then the same of what follows
same_front : {T : Type 0} (class : T → ℕ) (cs : List ℕ) (steps others : List (Step T)) (rest last : List (Event ℕ)) → tokens_in steps ≡ tokens_in others → BeginAlike (map class (plain steps) ++ cs) (map (lower class) (events_of steps) ++ rest) (map (lower class) (events_of others) ++ last) → (steps ≡ others) × BeginAlike cs rest last
same_front class cs [] [] rest last e h = (refl, h)
same_front class cs [] (t ∷ others) rest last e h = absurd (cc)
same_front class cs (s ∷ steps) [] rest last e h = absurd (cc)
same_front {T} class cs (s ∷ steps) (t ∷ others) rest last e h =
    let token : s.token ≡ t.token = cc in
    let it = same_acts class (class s.token.token) (map class (plain steps) ++ cs) s.acts t.acts s.token.token t.token.token (events_of steps) (events_of others) rest last h in
    let more = same_front class cs steps others rest last (cc) it.1 in
    ((λ i. record { acts = it.0 i; token = token i } ∷ more.0 i), more.1)

-- acts in front of what comes next
same_last : (c : ℕ) (next other : Option ℕ) (acts others : List ℕ) (rest last : List (Event ℕ)) → ComesNext rest next → ComesNext last other → BeginAlike (c ∷ []) (map Do acts ++ rest) (map Do others ++ last) → acts ≡ others
same_last c next other [] [] rest last k l h = refl
same_last c next other [] (b ∷ others) [] last k l h = absurd h
same_last c next other [] (b ∷ others) (Take x ∷ rest) last k l h = absurd h
same_last c next other [] (b ∷ others) (Do a ∷ rest) last k l h = absurd k
same_last c next other (a ∷ acts) [] rest [] k l h = absurd h
same_last c next other (a ∷ acts) [] rest (Take x ∷ last) k l h = absurd h
same_last c next other (a ∷ acts) [] rest (Do b ∷ last) k l h = absurd l
same_last c next other (a ∷ acts) (b ∷ others) rest last k l h =
    let more = same_last c next other acts others rest last k l h.1 in
    λ i. h.0 i ∷ more i

-- ---- the tokens of events

pub same_plain : {T : Type 0} (steps others : List (Step T)) → tokens_in steps ≡ tokens_in others → plain steps ≡ plain others
same_plain [] [] e = refl
same_plain [] (t ∷ others) e = absurd (cc)
same_plain (s ∷ steps) [] e = absurd (cc)
same_plain (s ∷ steps) (t ∷ others) e =
    let token : s.token ≡ t.token = cc in
    let more = same_plain steps others (cc) in
    λ i. (token i).token ∷ more i

taken_act : {T : Type 0} (class : T → ℕ) (acts : List ℕ) (x : T) (es : List (Event T)) (rest : List (Event ℕ)) → tokens_of (map (lower class) (map Do acts ++ Take x ∷ es) ++ rest) ≡ class x ∷ tokens_of (map (lower class) es ++ rest)
taken_act class [] x es rest = refl
taken_act class (a ∷ acts) x es rest = taken_act class acts x es rest

taken_steps : {T : Type 0} (class : T → ℕ) (steps : List (Step T)) (rest : List (Event ℕ)) → tokens_of (map (lower class) (events_of steps) ++ rest) ≡ map class (plain steps) ++ tokens_of rest
taken_steps class [] rest = refl
taken_steps class (s ∷ steps) rest =
    taken_act class s.acts s.token.token (events_of steps) rest
    ∙ ap (λ (l : List ℕ). class s.token.token ∷ l) (taken_steps class steps rest)

taken_none : (acts : List ℕ) (rest : List (Event ℕ)) → tokens_of (map Do acts ++ rest) ≡ tokens_of rest
taken_none [] rest = refl
taken_none (a ∷ acts) rest = taken_none acts rest

-- the class that comes next, and some more
comes_class : (rest : List (Event ℕ)) (c : ℕ) → ComesNext rest (Some c) → (more : List ℕ) × (tokens_of rest ≡ c ∷ more)
comes_class [] c k = absurd (cc)
comes_class (Take x ∷ rest) c k = (tokens_of rest, let same : c ≡ x = cc in λ i. sym same i ∷ tokens_of rest)
comes_class (Do a ∷ rest) c k = absurd k

comes_none : (rest : List (Event ℕ)) → ComesNext rest None → rest ≡ []
comes_none [] k = refl
comes_none (Take x ∷ rest) k = absurd (cc)
comes_none (Do a ∷ rest) k = absurd k

follow_classes : {T : Type 0} {g : List Entry} {rules : Rules T} {acts : List ℕ} {next : Option T} (steps : List (Step T)) (f : MayFollow g rules (events_of steps) acts next) → f.classes ≡ map rules.class (plain steps) ++ tokens_of f.rest
follow_classes {rules = rules} {acts = acts} steps f =
    sym (taken f.derives) ∙ taken_steps rules.class steps (map Do acts ++ f.rest)
    ∙ ap (λ (l : List ℕ). map rules.class (plain steps) ++ l) (taken_none acts f.rest)

-- the tokens with the next one, and more
record ClassesWith (classes front : List ℕ) (c : ℕ) : Type 0 where
  more : List ℕ
  are : classes ≡ (front ++ c ∷ []) ++ more

follow_class : {T : Type 0} {g : List Entry} {rules : Rules T} {acts : List ℕ} {x : T} (steps : List (Step T)) (f : MayFollow g rules (events_of steps) acts (Some x)) → ClassesWith f.classes (map rules.class (plain steps)) (rules.class x)
follow_class {rules = rules} {x = x} steps f =
    let it = comes_class f.rest (rules.class x) f.comes in
    record {
      more = it.0;
      are =
          follow_classes steps f ∙ ap (λ (l : List ℕ). map rules.class (plain steps) ++ l) it.1
          ∙ sym (append_assoc (map rules.class (plain steps)) (rules.class x ∷ []) it.0);
    }

-- ---- what follows tokens

with_tokens : {g : List Entry} {ss : List Symbol} {xs ys : List ℕ} {es : List (Event ℕ)} → xs ≡ ys → Derives g ss xs es → Derives g ss ys es
with_tokens {g = g} {ss = ss} {es = es} e d = subst (λ (l : List ℕ). Derives g ss l es) e d

-- a token that may follow begins something with them
pub follow_begins : {T : Type 0} {g : List Entry} {rules : Rules T} {acts : List ℕ} {x : T} (steps : List (Step T)) → MayFollow g rules (events_of steps) acts (Some x) → Begins g (Rule rules.document ∷ []) (map rules.class (plain steps) ++ rules.class x ∷ [])
follow_begins {rules = rules} {acts = acts} steps f =
    let it = follow_class steps f in
    record {
      more = it.more;
      events = map (lower rules.class) (events_of steps) ++ (map Do acts ++ f.rest);
      derives = with_tokens it.are f.derives;
    }

-- where the end may follow, they derive
pub follow_ends : {T : Type 0} {g : List Entry} {rules : Rules T} {acts : List ℕ} (steps : List (Step T)) → MayFollow g rules (events_of steps) acts None → Derives g (Rule rules.document ∷ []) (map rules.class (plain steps)) (map (lower rules.class) (events_of steps) ++ map Do acts)
follow_ends {g = g} {rules = rules} {acts = acts} steps f =
    let none = comes_none f.rest f.comes in
    let classes = follow_classes steps f ∙ ap (λ (l : List (Event ℕ)). map rules.class (plain steps) ++ tokens_of l) none ∙ append-nil (map rules.class (plain steps)) in
    subst (λ (l : List (Event ℕ)). Derives g (Rule rules.document ∷ []) (map rules.class (plain steps)) (map (lower rules.class) (events_of steps) ++ l))
    (ap (λ (l : List (Event ℕ)). map Do acts ++ l) none ∙ append-nil (map Do acts)) (with_tokens classes f.derives)

-- a token among those that begin a document may follow those before it
acts_first : {T : Type 0} (class : T → ℕ) (acts : List ℕ) (es : List (Event T)) (rest : List (Event ℕ)) → map (lower class) (map Do acts ++ es) ++ rest ≡ map Do acts ++ (map (lower class) es ++ rest)
acts_first class [] es rest = refl
acts_first class (a ∷ acts) es rest = ap (λ (l : List (Event ℕ)). Do a ∷ l) (acts_first class acts es rest)

parts_of : {T : Type 0} (class : T → ℕ) (front : List (Step T)) (s : Step T) (back : List (Step T)) (rest : List (Event ℕ)) → map (lower class) (events_of (front ++ s ∷ back)) ++ rest ≡ map (lower class) (events_of front) ++ (map Do s.acts ++ Take (class s.token.token) ∷ (map (lower class) (events_of back) ++ rest))
parts_of class [] s back rest = acts_first class s.acts (Take s.token.token ∷ events_of back) rest
parts_of class (t ∷ front) s back rest =
    acts_first class t.acts (Take t.token.token ∷ events_of (front ++ s ∷ back)) rest
    ∙ ap (λ (l : List (Event ℕ)). map Do t.acts ++ Take (class t.token.token) ∷ l) (parts_of class front s back rest)
    ∙ sym (acts_first class t.acts (Take t.token.token ∷ events_of front) (map Do s.acts ++ Take (class s.token.token) ∷ (map (lower class) (events_of back) ++ rest)))

pub step_follows : {T : Type 0} {g : List Entry} {rules : Rules T} (front : List (Step T)) (s : Step T) (back : List (Step T)) → Begin g rules (front ++ s ∷ back) → MayFollow g rules (events_of front) s.acts (Some s.token.token)
step_follows {g = g} {rules = rules} front s back b = record {
  classes = map rules.class (plain (front ++ s ∷ back)) ++ b.more;
  rest = Take (rules.class s.token.token) ∷ (map (lower rules.class) (events_of back) ++ b.rest);
  derives = subst (Derives g (Rule rules.document ∷ []) (map rules.class (plain (front ++ s ∷ back)) ++ b.more)) (parts_of rules.class front s back b.rest) b.derives;
  comes = refl;
}

-- ---- one way

-- documents that begin with the same tokens have the same acts in front of them
pub same_steps : {T : Type 0} {g : List Entry} {rules : Rules T} → IsPredictive g → has_rule g rules.document ≡ true → (steps others : List (Step T)) → tokens_in steps ≡ tokens_in others → Begin g rules steps → Begin g rules others → steps ≡ others
same_steps {rules = rules} p known steps others e b c =
    let classes = ap (λ (l : List _). map rules.class l) (same_plain steps others e) in
    let front = map rules.class (plain steps) in
    (same_front rules.class [] steps others b.rest c.rest e
    (begin_alike p (followed_start p rules.document known) (front ++ []) b.more c.more
    (ap (λ (l : List ℕ). l ++ b.more) (sym (append-nil front)))
    (ap (λ (l : List ℕ). l ++ c.more) (sym classes ∙ sym (append-nil front))) b.derives c.derives)).0

-- and in front of the token that follows
pub same_follow : {T : Type 0} {g : List Entry} {rules : Rules T} {acts more : List ℕ} {x : T} → IsPredictive g → has_rule g rules.document ≡ true → (steps others : List (Step T)) → tokens_in steps ≡ tokens_in others → MayFollow g rules (events_of steps) acts (Some x) → MayFollow g rules (events_of others) more (Some x) → (steps ≡ others) × (acts ≡ more)
same_follow {T} {rules = rules} {acts = acts} {more = more} {x = x} p known steps others e f h =
    let classes = ap (λ (l : List T). map rules.class l) (same_plain steps others e) in
    let front = map rules.class (plain steps) in
    let one = follow_class steps f in
    let other = follow_class others h in
    let are = other.are ∙ ap (λ (l : List ℕ). (l ++ rules.class x ∷ []) ++ other.more) (sym classes) in
    let start = followed_start p rules.document known in
    let alike = begin_alike p start (front ++ rules.class x ∷ []) one.more other.more one.are are f.derives h.derives in
    let it = same_front rules.class (rules.class x ∷ []) steps others (map Do acts ++ f.rest) (map Do more ++ h.rest) e alike in
    (it.0, same_last (rules.class x) (Some (rules.class x)) (Some (rules.class x)) acts more f.rest h.rest f.comes h.comes it.1)

same_dos : (acts others : List ℕ) → map Do acts ≡ map {B = Event ℕ} Do others → acts ≡ others
same_dos [] [] e = refl
same_dos [] (b ∷ others) e = absurd (cc)
same_dos (a ∷ acts) [] e = absurd (cc)
same_dos (a ∷ acts) (b ∷ others) e =
    let first : a ≡ b = cc in
    let more = same_dos acts others (cc) in
    λ i. first i ∷ more i

-- and in front of what follows, be it a token or the end
pub same_acts_next : {T : Type 0} {g : List Entry} {rules : Rules T} {acts others : List ℕ} → IsPredictive g → has_rule g rules.document ≡ true → (steps : List (Step T)) (next : Option T) → MayFollow g rules (events_of steps) acts next → MayFollow g rules (events_of steps) others next → acts ≡ others
same_acts_next p known steps (Some x) f h = (same_follow p known steps steps refl f h).1
same_acts_next {rules = rules} {acts = acts} {others = others} p known steps None f h =
    same_dos acts others (append_cancel_left (map (lower rules.class) (events_of steps)) (map Do acts) (map Do others)
    (one_way p (followed_start p rules.document known) (follow_ends steps f) (follow_ends steps h)))
