-- What was fed to a parser is kept from one token to the next, and where it refuses stands the first wrong token.
use Rattle.std.proofs.Common.{◌≡◌, ℕ, true, List, [], ◌∷◌, ◌++◌, length, map, refl, sym, ap, ◌∙◌, subst}
use Rattle.std.proofs.lemmas.List.{append_assoc, append-nil}
use Rattle.grammar.specs.Derivations.{Begins, Derives, Event, Lives}
use Rattle.grammar.specs.Derivations.Event.{Do, Take}
use Rattle.grammar.specs.Feeding.{DefectAt, Fed, StopsAt}
use Rattle.grammar.specs.Grammars.{Entry, has_rule}
use Rattle.grammar.specs.Parsing.{Ends, Feeds, Leads, NeedsMore, Parsing, Refuses}
use Rattle.grammar.specs.Predicting.{is_predictive, is_productive}
use Rattle.grammar.proofs.PredictiveLaws.{followed_start, predictive}
use Rattle.grammar.proofs.ProductiveLaws.{lives, productive}
use Rattle.grammar.specs.declared.symbol.Symbol.{Symbol}
use Rattle.grammar.specs.declared.symbol.Symbol.TheVariants.{Rule}

pub leads_nowhere : (g : List Entry) (ss : List Symbol) → Leads g ss [] [] ss
leads_nowhere g ss = record {
  only = λ more es d. record { more = es; events_are = refl; derives = d };
  all = λ more es d. d;
}

pub leads_both : {g : List Entry} (a b c : List Symbol) (xs ys : List ℕ) (es fs : List (Event ℕ)) → Leads g a xs es b → Leads g b ys fs c → Leads g a (xs ++ ys) (es ++ fs) c
leads_both {g = g} a b c xs ys es fs l m = record {
  only = λ more ds d.
      let one = l.only (ys ++ more) ds (subst (λ (ts : List ℕ). Derives g a ts ds) (append_assoc xs ys more) d) in
      let two = m.only more one.more one.derives in
      record {
        more = two.more;
        events_are = one.events_are ∙ ap (λ (l : List (Event ℕ)). es ++ l) two.events_are ∙ sym (append_assoc es fs two.more);
        derives = two.derives;
      };
  all = λ more ds d.
      subst (λ (ts : List ℕ). Derives g a ts ((es ++ fs) ++ ds)) (sym (append_assoc xs ys more))
      (subst (Derives g a (xs ++ (ys ++ more))) (sym (append_assoc es fs ds))
      (l.all (ys ++ more) (fs ++ ds) (m.all more ds d)));
}

-- before the first token
pub fed_nothing : (g : List Entry) (start : List Symbol) → Lives g start → Fed g start [] [] start
fed_nothing g start it = record { leads = leads_nowhere g start; lives = it }

pub fed_start : (g : List Entry) → is_predictive g ≡ true → is_productive g ≡ true → (r : ℕ) → has_rule g r ≡ true → Fed g (Rule r ∷ []) [] [] (Rule r ∷ [])
fed_start g predicts produces r known =
    fed_nothing g (Rule r ∷ []) (lives (productive g produces) (Rule r ∷ []) (followed_start (predictive g predicts) r known))

-- one token more
pub fed_more : {g : List Entry} {start : List Symbol} {front : List ℕ} {events : List (Event ℕ)} {old new : Parsing} {class : ℕ} {before after : List ℕ} → Fed g start front events old.expected → (f : Feeds g old class before new after) → Fed g start (front ++ class ∷ []) (events ++ (map Do f.given ++ Take class ∷ [])) new.expected
fed_more {start = start} {front = front} {events = events} {old = old} {new = new} {class = class} fed f = record {
  leads = leads_both start old.expected new.expected front (class ∷ []) events (map Do f.given ++ Take class ∷ []) fed.leads f.leads;
  lives = f.lives;
}

-- what was fed begins something
pub fed_begins : {g : List Entry} {start : List Symbol} {front : List ℕ} {events : List (Event ℕ)} {ss : List Symbol} → Fed g start front events ss → Begins g start front
fed_begins {events = events} fed = record {
  more = fed.lives.tokens;
  events = events ++ fed.lives.events;
  derives = fed.leads.all fed.lives.tokens fed.lives.events fed.lives.derives;
}

-- with one that may go on it begins something, and where it does the token may go on
pub fed_takes : {g : List Entry} {start : List Symbol} {front : List ℕ} {events : List (Event ℕ)} {ss : List Symbol} → Fed g start front events ss → (class : ℕ) → Begins g ss (class ∷ []) → Begins g start (front ++ class ∷ [])
fed_takes {g = g} {start = start} {front = front} {events = events} fed class b = record {
  more = b.more;
  events = events ++ b.events;
  derives = subst (λ (ts : List ℕ). Derives g start ts (events ++ b.events)) (sym (append_assoc front (class ∷ []) b.more)) (fed.leads.all (class ∷ b.more) b.events b.derives);
}

pub fed_goes_on : {g : List Entry} {start : List Symbol} {front : List ℕ} {events : List (Event ℕ)} {ss : List Symbol} → Fed g start front events ss → (class : ℕ) → Begins g start (front ++ class ∷ []) → Begins g ss (class ∷ [])
fed_goes_on {g = g} {start = start} {front = front} fed class b =
    let it = fed.leads.only (class ∷ b.more) b.events (subst (λ (ts : List ℕ). Derives g start ts b.events) (append_assoc front (class ∷ []) b.more) b.derives) in
    record { more = b.more; events = it.more; derives = it.derives }

-- with a token that is refused it begins nothing
pub fed_refuses : {g : List Entry} {start : List Symbol} {front : List ℕ} {events : List (Event ℕ)} {ss : List Symbol} → Fed g start front events ss → (class : ℕ) → Refuses g ss class → Begins g start (front ++ class ∷ []) → ⊥
fed_refuses fed class never b = let it = fed_goes_on fed class b in never it.more it.events it.derives

-- at the end these are all tokens, and their only events
pub fed_ends : {g : List Entry} {start : List Symbol} {front : List ℕ} {events : List (Event ℕ)} {old new : Parsing} {before after : List ℕ} → Fed g start front events old.expected → (e : Ends g old before new after) → Derives g start front (events ++ map Do e.given)
fed_ends {g = g} {start = start} {front = front} {events = events} fed e =
    subst (λ (ts : List ℕ). Derives g start ts (events ++ map Do e.given)) (append-nil front) (fed.leads.all [] (map Do e.given) e.derives)

pub fed_one_way : {g : List Entry} {start : List Symbol} {front : List ℕ} {events : List (Event ℕ)} {old new : Parsing} {before after : List ℕ} → Fed g start front events old.expected → (e : Ends g old before new after) → (es : List (Event ℕ)) → Derives g start front es → es ≡ events ++ map Do e.given
fed_one_way {g = g} {start = start} {front = front} {events = events} fed e es d =
    let it = fed.leads.only [] es (subst (λ (ts : List ℕ). Derives g start ts es) (sym (append-nil front)) d) in
    it.events_are ∙ ap (λ (l : List (Event ℕ)). events ++ l) (e.only it.more it.derives)

-- where more is needed these are not all tokens
pub fed_needs : {g : List Entry} {start : List Symbol} {front : List ℕ} {events : List (Event ℕ)} {ss : List Symbol} → Fed g start front events ss → NeedsMore g ss → (es : List (Event ℕ)) → Derives g start front es → ⊥
fed_needs {g = g} {start = start} {front = front} fed never es d =
    let it = fed.leads.only [] es (subst (λ (ts : List ℕ). Derives g start ts es) (sym (append-nil front)) d) in
    never it.more it.derives

-- ---- the first wrong token

pub defect_at_token : {g : List Entry} {start : List Symbol} {front : List ℕ} {events : List (Event ℕ)} {ss : List Symbol} → Fed g start front events ss → (class : ℕ) (rest : List ℕ) → Refuses g ss class → DefectAt g start (front ++ class ∷ rest) (length front)
defect_at_token {front = front} fed class rest never = record {
  front = front;
  rest = class ∷ rest;
  classes_are = refl;
  place_is = refl;
  begins = fed_begins fed;
  stops = fed_refuses fed class never;
}

pub defect_at_end : {g : List Entry} {start : List Symbol} {front : List ℕ} {events : List (Event ℕ)} {ss : List Symbol} → Fed g start front events ss → NeedsMore g ss → DefectAt g start front (length front)
defect_at_end {front = front} fed never = record {
  front = front;
  rest = [];
  classes_are = sym (append-nil front);
  place_is = refl;
  begins = fed_begins fed;
  stops = fed_needs fed never;
}

stopped : (g : List Entry) (start : List Symbol) (front rest : List ℕ) → StopsAt g start front rest → (es : List (Event ℕ)) → Derives g start (front ++ rest) es → ⊥
stopped g start front [] stops es d = stops es (subst (λ (ts : List ℕ). Derives g start ts es) (append-nil front) d)
stopped g start front (class ∷ rest) stops es d = stops (record {
  more = rest;
  events = es;
  derives = subst (λ (ts : List ℕ). Derives g start ts es) (sym (append_assoc front (class ∷ []) rest)) d;
})

-- tokens with a defect don't derive
pub defect_derives_not : {g : List Entry} {start : List Symbol} {classes : List ℕ} {place : ℕ} → DefectAt g start classes place → (es : List (Event ℕ)) → Derives g start classes es → ⊥
defect_derives_not {g = g} {start = start} it es d =
    stopped g start it.front it.rest it.stops es (subst (λ (ts : List ℕ). Derives g start ts es) it.classes_are d)

-- ---- there is one first wrong token

-- what begins something does so in each part in front
begins_before : (g : List Entry) (start : List Symbol) (front more : List ℕ) → Begins g start (front ++ more) → Begins g start front
begins_before g start front more b = record {
  more = more ++ b.more;
  events = b.events;
  derives = subst (λ (ts : List ℕ). Derives g start ts b.events) (append_assoc front more b.more) b.derives;
}

-- two fronts of a list: one is the other, or ends sooner
data Overlap (a b c d : List ℕ) : Type 0 where
  alike : a ≡ c → Overlap a b c d
  sooner : (x : ℕ) (m : List ℕ) → c ≡ a ++ x ∷ m → b ≡ x ∷ (m ++ d) → Overlap a b c d
  later : (x : ℕ) (m : List ℕ) → a ≡ c ++ x ∷ m → d ≡ x ∷ (m ++ b) → Overlap a b c d

overlap_more : (x y : ℕ) (a b c d : List ℕ) → x ≡ y → Overlap a b c d → Overlap (x ∷ a) b (y ∷ c) d
overlap_more x y a b c d e (alike f) = alike (λ i. e i ∷ f i)
overlap_more x y a b c d e (sooner z m f h) = sooner z m (λ i. sym e i ∷ f i) h
overlap_more x y a b c d e (later z m f h) = later z m (λ i. e i ∷ f i) h

overlap : (a b c d : List ℕ) → a ++ b ≡ c ++ d → Overlap a b c d
overlap [] b [] d e = alike refl
overlap [] b (y ∷ c) d e = sooner y c refl e
overlap (x ∷ a) b [] d e = later x a refl (sym e)
overlap (x ∷ a) b (y ∷ c) d e = overlap_more x y a b c d (cc) (overlap a b c d (cc))

stops_sooner : (g : List Entry) (start : List Symbol) (front rest other : List ℕ) (x : ℕ) (m more : List ℕ) → StopsAt g start front rest → Begins g start other → other ≡ front ++ x ∷ m → rest ≡ x ∷ more → ⊥
stops_sooner g start front rest other x m more stops begins e f =
    let stops_there = subst (StopsAt g start front) f stops in
    stops_there (begins_before g start (front ++ x ∷ []) m (subst (Begins g start) (e ∙ sym (append_assoc front (x ∷ []) m)) begins))

same_front : {g : List Entry} {start : List Symbol} {classes : List ℕ} {p q : ℕ} (one : DefectAt g start classes p) (other : DefectAt g start classes q) → Overlap one.front one.rest other.front other.rest → one.front ≡ other.front
same_front one other (alike e) = e
same_front {g = g} {start = start} one other (sooner x m e f) = absurd (stops_sooner g start one.front one.rest other.front x m (m ++ other.rest) one.stops other.begins e f)
same_front {g = g} {start = start} one other (later x m e f) = absurd (stops_sooner g start other.front other.rest one.front x m (m ++ one.rest) other.stops one.begins e f)

pub one_defect : {g : List Entry} {start : List Symbol} {classes : List ℕ} {p q : ℕ} → DefectAt g start classes p → DefectAt g start classes q → p ≡ q
one_defect one other =
    let front = same_front one other (overlap one.front one.rest other.front other.rest (sym one.classes_are ∙ other.classes_are)) in
    one.place_is ∙ ap (λ (l : List ℕ). length l) front ∙ sym other.place_is
