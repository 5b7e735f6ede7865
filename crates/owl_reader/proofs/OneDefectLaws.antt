-- Bytes have one first defect at most.
use Rattle.std.proofs.Common.{◌≡◌, ℕ, ◌≤◌, Bool, true, false, List, [], ◌∷◌, ◌++◌, length, map, Option, None, Some, refl, sym, ap, ◌∙◌, subst, arith}
use Rattle.std.proofs.lemmas.List.{append-nil}
use Rattle.grammar.specs.Derivations.{Begins, Derives, Event}
use Rattle.grammar.specs.Derivations.Event.{Do}
use Rattle.grammar.specs.Grammars.{Entry, has_rule}
use Rattle.grammar.specs.Lowering.{lower}
use Rattle.grammar.specs.Predicting.{is_predictive}
use Rattle.grammar.specs.Predictions.{IsPredictive}
use Rattle.grammar.proofs.PredictiveLaws.{predictive}
use Rattle.grammar.specs.declared.symbol.Symbol.TheVariants.{Rule}
use Rattle.owl_characters.specs.Limit.{most_bytes}
use Rattle.owl_lexer.specs.Splitting.{Splits}
use Rattle.owl_lexer.specs.declared.fault.LexFault.{LexFault}
use Rattle.owl_lexer.specs.declared.placed.Placed.{Placed}
use Rattle.owl_reader.specs.Defects.{Begin, HasDefect, IsFirstDefect, IsRefused}
use Rattle.owl_reader.specs.Defects.HasDefect.{at_end, at_token, no_token}
use Rattle.owl_reader.specs.Defects.IsFirstDefect.{beyond, too_long, within}
use Rattle.owl_reader.specs.Defects.IsRefused.{barred, wrong_end, wrong_token}
use Rattle.owl_reader.specs.Faults.{fault_at, lexing_refusal}
use Rattle.owl_reader.specs.Items.{BeginsItem, item_start, last_item, resumes_item}
use Rattle.owl_reader.specs.Items.BeginsItem.{anew, inside}
use Rattle.owl_reader.proofs.SameStepsLaws.{follow_begins, follow_ends, same_acts_next, same_follow, same_plain, same_steps, step_follows}
use Rattle.owl_reader.specs.Following.{MayFollow}
use Rattle.owl_reader.specs.Steps.{Step, events_of, plain, token_in, tokens_in}
use Rattle.owl_reader.specs.Syntaxes.{Rules}
use Rattle.owl_reader.specs.declared.fault.ReadFault.{ReadFault}
use Rattle.owl_reader.specs.declared.fault.ReadFault.TheVariants as read
use Rattle.owl_reader.specs.declared.fault.Reason.TheVariants as reason
use Rattle.owl_reader.specs.declared.fault.TokenFault.{TokenFault}

-- bytes are one list of tokens, and end in one way
abbrev pub ComeOneWay : {T : Type 0} → (T → List ℕ → Type 0) → Type 0
ComeOneWay {T} spells =
    (bytes : List ℕ) (ts us : List (Placed T)) (e f : Option LexFault) →
    Splits spells bytes ts e → Splits spells bytes us f → (ts ≡ us) × (e ≡ f)

-- acts are barred for one reason
abbrev pub BarOneWay : {T : Type 0} → Rules T → Type 0
BarOneWay {T} rules =
    (steps : List (Step T)) (acts : List ℕ) (next : Option (Placed T)) (f h : TokenFault) →
    rules.Bars steps acts next f → rules.Bars steps acts next h → f ≡ h

-- ---- at one place

-- what the acts bar is not refused by the grammar
wrong_not_barred : {T : Type 0} {g : List Entry} {rules : Rules T} {acts : List ℕ} {next : Option (Placed T)} {p : Placed T} (steps : List (Step T)) → next ≡ Some p → (Begins g (Rule rules.document ∷ []) (map rules.class (plain steps) ++ rules.class p.token ∷ []) → ⊥) → MayFollow g rules (events_of steps) acts (token_in next) → ⊥
wrong_not_barred {T} {g = g} {rules = rules} {acts = acts} steps e never f =
    never (follow_begins steps (subst (λ (n : Option (Placed T)). MayFollow g rules (events_of steps) acts (token_in n)) e f))

end_not_barred : {T : Type 0} {g : List Entry} {rules : Rules T} {acts : List ℕ} {next : Option (Placed T)} (steps : List (Step T)) → next ≡ None → ((events : List (Event ℕ)) → Derives g (Rule rules.document ∷ []) (map rules.class (plain steps)) events → ⊥) → MayFollow g rules (events_of steps) acts (token_in next) → ⊥
end_not_barred {T} {g = g} {rules = rules} {acts = acts} steps e never f =
    never (map (lower rules.class) (events_of steps) ++ map Do acts) (follow_ends steps (subst (λ (n : Option (Placed T)). MayFollow g rules (events_of steps) acts (token_in n)) e f))

-- a token or the end begins an item or not
one_begin : {T : Type 0} {g : List Entry} {rules : Rules T} {steps : List (Step T)} {next : Option T} {a b : Bool} → BeginsItem g rules steps next a → BeginsItem g rules steps next b → a ≡ b
one_begin (anew e whole) (anew f other) = refl
one_begin (anew e whole) (inside never) = absurd (never e whole)
one_begin (inside never) (anew e whole) = absurd (never e whole)
one_begin (inside never) (inside nor) = refl

-- the refusal of what no document goes on with
abbrev not_here : {T : Type 0} → Rules T → List (Step T) → ℕ → Bool → ReadFault
not_here rules steps at begins = read.Refused (item_start begins false (last_item rules steps) at) at reason.NotHere

one_refusal : {T : Type 0} {g : List Entry} {rules : Rules T} {steps : List (Step T)} {at : ℕ} {next : Option (Placed T)} {r s : ReadFault} → IsPredictive g → has_rule g rules.document ≡ true → BarOneWay rules → IsRefused g rules steps at next r → IsRefused g rules steps at next s → r ≡ s
one_refusal {rules = rules} {steps = steps} {at = at} p known bars (wrong_token x a e never b i) (wrong_token y c f nor d j) =
    i ∙ ap (not_here rules steps at) (one_begin b d) ∙ sym j
one_refusal {rules = rules} {steps = steps} {at = at} p known bars (wrong_token x a e never b i) (wrong_end c f nor d j) =
    i ∙ ap (not_here rules steps at) (one_begin b d) ∙ sym j
one_refusal {steps = steps} p known bars (wrong_token x a e never b i) (barred acts f some may bar j) =
    absurd (wrong_not_barred steps e never may)
one_refusal {rules = rules} {steps = steps} {at = at} p known bars (wrong_end a e never b i) (wrong_token y c f nor d j) =
    i ∙ ap (not_here rules steps at) (one_begin b d) ∙ sym j
one_refusal {rules = rules} {steps = steps} {at = at} p known bars (wrong_end a e never b i) (wrong_end c f nor d j) =
    i ∙ ap (not_here rules steps at) (one_begin b d) ∙ sym j
one_refusal {steps = steps} p known bars (wrong_end a e never b i) (barred acts f some may bar j) =
    absurd (end_not_barred steps e never may)
one_refusal {steps = steps} p known bars (barred acts f some may bar i) (wrong_token y a e never b j) =
    absurd (wrong_not_barred steps e never may)
one_refusal {steps = steps} p known bars (barred acts f some may bar i) (wrong_end a e never b j) =
    absurd (end_not_barred steps e never may)
one_refusal {rules = rules} {steps = steps} {at = at} {next = next} p known bars (barred acts f some may bar i) (barred others h other might ban j) =
    let same = same_acts_next p known steps (token_in next) may might in
    let fault = bars steps acts next f h bar (subst (λ (l : List ℕ). rules.Bars steps l next h) (sym same) ban) in
    i ∙ (λ k. fault_at (fault k) (item_start (rules.begins (token_in next)) (resumes_item rules.mark (same k)) (last_item rules steps) at) at) ∙ sym j

-- ---- defects, whatever stands there

-- behind these steps one of these tokens is refused, or the end, or there is no token
abbrev Stops : {T : Type 0} → List Entry → Rules T → List ℕ → List (Step T) → List (Placed T) → Option LexFault → ReadFault → Type 0
Stops g rules bytes steps (p ∷ others) ending r = IsRefused g rules steps p.at (Some p) r
Stops g rules bytes steps [] None r = IsRefused g rules steps (length bytes) None r
Stops g rules bytes steps [] (Some fault) r = r ≡ lexing_refusal fault (last_item rules steps)

record Defect {T : Type 0} (spells : T → List ℕ → Type 0) (g : List Entry) (rules : Rules T) (bytes : List ℕ) (r : ReadFault) : Type 0 where
  steps : List (Step T)
  others : List (Placed T)
  ending : Option LexFault
  splits : Splits spells bytes (tokens_in steps ++ others) ending
  begin : Begin g rules steps
  stops : Stops g rules bytes steps others ending r

at_last : {T : Type 0} (spells : T → List ℕ → Type 0) (bytes : List ℕ) (tokens : List (Placed T)) (ending : Option LexFault) → Splits spells bytes tokens ending → Splits spells bytes (tokens ++ []) ending
at_last {T} spells bytes tokens ending s = subst (λ (l : List (Placed T)). Splits spells bytes l ending) (sym (append-nil tokens)) s

defect : {T : Type 0} {spells : T → List ℕ → Type 0} {g : List Entry} {rules : Rules T} {bytes : List ℕ} {r : ReadFault} → HasDefect spells g rules bytes r → Defect spells g rules bytes r
defect (at_token steps p others ending splits begin refused) = record {
  steps = steps;
  others = p ∷ others;
  ending = ending;
  splits = splits;
  begin = begin;
  stops = refused;
}
defect {spells = spells} {bytes = bytes} (at_end steps splits begin refused) = record {
  steps = steps;
  others = [];
  ending = None;
  splits = at_last spells bytes (tokens_in steps) None splits;
  begin = begin;
  stops = refused;
}
defect {spells = spells} {bytes = bytes} (no_token steps fault splits begin is) = record {
  steps = steps;
  others = [];
  ending = Some fault;
  splits = at_last spells bytes (tokens_in steps) (Some fault) splits;
  begin = begin;
  stops = is;
}

one_stop : {T : Type 0} (g : List Entry) (rules : Rules T) (r s : ReadFault) → IsPredictive g → has_rule g rules.document ≡ true → BarOneWay rules → (bytes : List ℕ) (steps : List (Step T)) (others : List (Placed T)) (ending : Option LexFault) → Stops g rules bytes steps others ending r → Stops g rules bytes steps others ending s → r ≡ s
one_stop g rules r s p known bars bytes steps (t ∷ others) ending h k = one_refusal p known bars h k
one_stop g rules r s p known bars bytes steps [] None h k = one_refusal p known bars h k
one_stop g rules r s p known bars bytes steps [] (Some fault) h k = h ∙ sym k

-- ---- one place

-- of two fronts of one list of tokens the one is the other, or ends sooner
pub data Fronts {T : Type 0} (a : List (Step T)) (b : List (Placed T)) (c : List (Step T)) (d : List (Placed T)) : Type 0 where
  alike : tokens_in a ≡ tokens_in c → b ≡ d → Fronts a b c d
  sooner : (front : List (Step T)) (s : Step T) (back : List (Step T)) → c ≡ front ++ s ∷ back → tokens_in a ≡ tokens_in front → b ≡ s.token ∷ (tokens_in back ++ d) → Fronts a b c d
  later : (front : List (Step T)) (s : Step T) (back : List (Step T)) → a ≡ front ++ s ∷ back → tokens_in c ≡ tokens_in front → d ≡ s.token ∷ (tokens_in back ++ b) → Fronts a b c d

fronts_more : {T : Type 0} (x y : Step T) (a : List (Step T)) (b : List (Placed T)) (c : List (Step T)) (d : List (Placed T)) → x.token ≡ y.token → Fronts a b c d → Fronts (x ∷ a) b (y ∷ c) d
fronts_more x y a b c d e (alike f h) = alike (λ i. e i ∷ f i) h
fronts_more x y a b c d e (sooner front s back f h k) = sooner (y ∷ front) s back (λ i. y ∷ f i) (λ i. e i ∷ h i) k
fronts_more x y a b c d e (later front s back f h k) = later (x ∷ front) s back (λ i. x ∷ f i) (λ i. sym e i ∷ h i) k

pub fronts : {T : Type 0} (a : List (Step T)) (b : List (Placed T)) (c : List (Step T)) (d : List (Placed T)) → tokens_in a ++ b ≡ tokens_in c ++ d → Fronts a b c d
fronts [] b [] d e = alike refl e
fronts [] b (y ∷ c) d e = sooner [] y c refl refl e
fronts (x ∷ a) b [] d e = later [] x a refl refl (sym e)
fronts (x ∷ a) b (y ∷ c) d e = fronts_more x y a b c d (cc) (fronts a b c d (cc))

-- a token that is refused behind some steps is not taken behind the same tokens
pub never_taken : {T : Type 0} {g : List Entry} {rules : Rules T} {r : ReadFault} → IsPredictive g → has_rule g rules.document ≡ true → (steps front : List (Step T)) (s : Step T) (back : List (Step T)) → tokens_in steps ≡ tokens_in front → Begin g rules (front ++ s ∷ back) → IsRefused g rules steps s.token.at (Some s.token) r → ⊥
never_taken {T} {g = g} {rules = rules} p known steps front s back e begin (wrong_token x begins is never b i) =
    let same : s.token ≡ x = cc in
    never (subst (λ (y : Placed T). Begins g (Rule rules.document ∷ []) (map rules.class (plain steps) ++ rules.class y.token ∷ [])) same
    (subst (λ (l : List T). Begins g (Rule rules.document ∷ []) (map rules.class l ++ rules.class s.token.token ∷ [])) (sym (same_plain steps front e))
    (follow_begins front (step_follows front s back begin))))
never_taken p known steps front s back e begin (wrong_end begins is never b i) = absurd (cc)
never_taken {T} {rules = rules} p known steps front s back e begin (barred acts f some may bar i) =
    let same = same_follow p known steps front e may (step_follows front s back begin) in
    begin.none_barred front back s f refl
    (subst (λ (l : List ℕ). rules.Bars front l (Some s.token) f) same.1
    (subst (λ (l : List (Step T)). rules.Bars l acts (Some s.token) f) same.0 bar))

stops_sooner : {T : Type 0} (g : List Entry) (rules : Rules T) (r : ReadFault) → IsPredictive g → has_rule g rules.document ≡ true → (bytes : List ℕ) (steps : List (Step T)) (others : List (Placed T)) (ending : Option LexFault) → Stops g rules bytes steps others ending r → (more front : List (Step T)) (s : Step T) (back : List (Step T)) (rest : List (Placed T)) → Begin g rules more → more ≡ front ++ s ∷ back → tokens_in steps ≡ tokens_in front → others ≡ s.token ∷ rest → ⊥
stops_sooner {T} g rules r p known bytes steps others ending stops more front s back rest begin parts e first =
    never_taken p known steps front s back e (subst (Begin g rules) parts begin)
    (subst (λ (l : List (Placed T)). Stops g rules bytes steps l ending r) first stops)

one_of_two : {T : Type 0} {spells : T → List ℕ → Type 0} {g : List Entry} {rules : Rules T} {bytes : List ℕ} {r s : ReadFault} → IsPredictive g → has_rule g rules.document ≡ true → BarOneWay rules → (d : Defect spells g rules bytes r) (e : Defect spells g rules bytes s) → d.ending ≡ e.ending → Fronts d.steps d.others e.steps e.others → r ≡ s
one_of_two {T} {g = g} {rules = rules} {bytes = bytes} {r = r} {s = s} p known bars d e ends (alike tokens others) =
    let steps = same_steps p known d.steps e.steps tokens d.begin e.begin in
    one_stop g rules r s p known bars bytes d.steps d.others d.ending d.stops
    (subst (λ (f : Option LexFault). Stops g rules bytes d.steps d.others f s) (sym ends)
    (subst (λ (l : List (Placed T)). Stops g rules bytes d.steps l e.ending s) (sym others)
    (subst (λ (l : List (Step T)). Stops g rules bytes l e.others e.ending s) (sym steps) e.stops)))
one_of_two {g = g} {rules = rules} {bytes = bytes} {r = r} p known bars d e ends (sooner front t back parts tokens first) =
    absurd (stops_sooner g rules r p known bytes d.steps d.others d.ending d.stops e.steps front t back (tokens_in back ++ e.others) e.begin parts tokens first)
one_of_two {g = g} {rules = rules} {bytes = bytes} {s = s} p known bars d e ends (later front t back parts tokens first) =
    absurd (stops_sooner g rules s p known bytes e.steps e.others e.ending e.stops d.steps front t back (tokens_in back ++ d.others) d.begin parts tokens first)

-- ---- the laws

-- Bytes of any number have one defect at most, where tokens tell the alternatives of the grammar and acts are barred one way.
pub one_defect : {T : Type 0} {spells : T → List ℕ → Type 0} {g : List Entry} {rules : Rules T} → ComeOneWay spells → is_predictive g ≡ true → has_rule g rules.document ≡ true → BarOneWay rules → (bytes : List ℕ) (r s : ReadFault) → HasDefect spells g rules bytes r → HasDefect spells g rules bytes s → r ≡ s
one_defect {g = g} come predicts known bars bytes r s h k =
    let one = defect h in
    let other = defect k in
    let same = come bytes (tokens_in one.steps ++ one.others) (tokens_in other.steps ++ other.others) one.ending other.ending one.splits other.splits in
    one_of_two (predictive g predicts) known bars one other same.1 (fronts one.steps one.others other.steps other.others same.0)

-- bytes that are not too many have one first defect
has_it : {T : Type 0} {spells : T → List ℕ → Type 0} {g : List Entry} {rules : Rules T} {bytes : List ℕ} {r : ReadFault} → length bytes ≤ most_bytes → IsFirstDefect spells g rules bytes r → HasDefect spells g rules bytes r
has_it few (within fits h) = h
has_it few (beyond many h) = absurd (omega (arith, few, many))
has_it few (too_long many h none) = absurd (omega (arith, few, many))

pub one_first_defect : {T : Type 0} {spells : T → List ℕ → Type 0} {g : List Entry} {rules : Rules T} → ComeOneWay spells → is_predictive g ≡ true → has_rule g rules.document ≡ true → BarOneWay rules → (bytes : List ℕ) (r s : ReadFault) → length bytes ≤ most_bytes → IsFirstDefect spells g rules bytes r → IsFirstDefect spells g rules bytes s → r ≡ s
one_first_defect come predicts known bars bytes r s few h k = one_defect come predicts known bars bytes r s (has_it few h) (has_it few k)
