-- A table that passes the test of gaps is that of a language, where its lexemes say what those of the language do.
use Rattle.std.proofs.Common.{◌≡◌, ◌↔◌, ◌⊎◌, inl, inr, ℕ, ◌+◌, add-zero, zero, suc, ◌<◌, ◌≤◌, Bool, true, false, not, ◌&&◌, ◌||◌, Option, None, Some, List, [], ◌∷◌, ◌++◌, length, map, get_or, refl, sym, ap, ◌∙◌, subst, arith}
use Rattle.std.specs.Prelude.{◌==◌, nat_le, if◌then◌else◌}
use Rattle.std.specs.List.{list_all}
use Rattle.std.proofs.lemmas.Bool.{and_parts, both_ways, cases_lt, eq-eqb, eqb-true, false_from_ne_true, le-leb, leb-true, not-true, not_from_false, or_cases, or_left, or_right}
use Rattle.std.proofs.lemmas.List.{append_assoc}
use Rattle.owl_characters.specs.Iri.{is_among}
use Rattle.owl_characters.specs.Names.{IsRunOf}
use Rattle.owl_lexer.specs.Automata.{Automaton, Knows, Spells, kind_at, run, step_from}
use Rattle.owl_lexer.proofs.GapCheckLaws.{Quote, check_gaps, check_quiet, class_of, gap_starts, rows_pass, gaps_stay, is_alone, is_gap_kind, is_in_gap, is_none, is_quiet, is_quote, is_third, is_token_kind, leads_quietly, passes_next, row_leads, row_stays, rows_lead, space_classes, spaces, tokens_are_quiet, tokens_end, words_of}
use Rattle.owl_lexer.proofs.HoldingLaws.{run-append, run-none}
use Rattle.owl_lexer.specs.Languages.{BeginsNoGap, IsCommentText, IsLanguage, IsPrompt, IsLexemeWith}
use Rattle.owl_lexer.specs.Languages.IsLexemeWith.{token, space, comment}
use Rattle.owl_lexer.specs.Splitting.{is_comment_start, is_space}
use Rattle.owl_lexer.specs.Tables.{Table, automaton_of, class_in, kind_in, kind_number, state_of, step_in}
use Rattle.owl_lexer.specs.Words.{Holds, HoldsOne}

-- What the lexemes of a grammar stand for: tokens with their spellings, or gaps, whose kinds pass a test.
pub record Stand {T : Type 0} (grammar : ℕ → List ℕ → Type 0) (gap : ℕ → Bool) (value : ℕ → List ℕ → Option T) (spells : T → List ℕ → Type 0) : Type 0 where
  pub says : (kind : ℕ) (cs : List ℕ) → grammar kind cs → IsLexemeWith spells (value kind cs) cs
  pub token : (t : T) (cs : List ℕ) → spells t cs → (kind : ℕ) × grammar kind cs × (value kind cs ≡ Some t)
  pub space : (cs : List ℕ) → IsRunOf is_space cs → (kind : ℕ) × grammar kind cs
  pub comment : (cs : List ℕ) → IsCommentText cs → (kind : ℕ) × grammar kind cs
  pub none : (kind : ℕ) (cs : List ℕ) → gap kind ≡ true → value kind cs ≡ None

says_token : {T : Type 0} → (spells : T → List ℕ → Type 0) (t : T) (cs : List ℕ) (value : Option T) → IsLexemeWith spells value cs → value ≡ Some t → spells t cs
says_token {T} spells t cs value (token u e h) v =
    let some : Some u ≡ Some t = sym e ∙ v in
    let same : u ≡ t = cc in
    subst (λ (x : T). spells x cs) same h
says_token spells t cs value (space e h) v = let none : None ≡ Some t = sym e ∙ v in absurd (cc)
says_token spells t cs value (comment e h) v = let none : None ≡ Some t = sym e ∙ v in absurd (cc)

-- Characters are written for a token exactly where they are a lexeme that stands for it.
pub spelled_exactly : {T : Type 0} → (grammar : ℕ → List ℕ → Type 0) (gap : ℕ → Bool) (value : ℕ → List ℕ → Option T) (spells : T → List ℕ → Type 0) → Stand grammar gap value spells → (t : T) (cs : List ℕ) → spells t cs ↔ ((kind : ℕ) × grammar kind cs × (value kind cs ≡ Some t))
spelled_exactly grammar gap value spells s t cs = (λ h. s.token t cs h, λ o. says_token spells t cs (value o.0 cs) (s.says o.0 cs o.1) o.2)

-- tests

pub passes_among : (f : ℕ → Bool) (cs : List ℕ) (c : ℕ) → list_all f cs ≡ true → is_among cs c ≡ true → f c ≡ true
passes_among f [] c h m = absurd (cc)
passes_among f (x ∷ cs) c h m =
    let parts = and_parts (f x) (list_all f cs) h in
    elim (or_cases (x == c) (is_among cs c) m) [
      | inl same ↦ ap f (sym (eqb-true x c same)) ∙ parts.0
      | inr other ↦ passes_among f cs c parts.1 other
    ]

-- an implication that computes
pub implied : (a b : Bool) → (not a || b) ≡ true → a ≡ true → b ≡ true
implied true b h e = h
implied false b h e = absurd (cc)

pub nothing : (o : Option ℕ) → is_none o ≡ true → o ≡ None
nothing None h = refl
nothing (Some n) h = absurd (cc)

pub cell_passes : (test : Option ℕ → Bool) → test None ≡ true → (row : List ℕ) (class : ℕ) → list_all (λ next. test (state_of next)) row ≡ true → test (state_of (get_or row class 255)) ≡ true
cell_passes test n [] class h = n
cell_passes test n (next ∷ row) zero h = (and_parts (test (state_of next)) (list_all (λ next. test (state_of next)) row) h).0
cell_passes test n (next ∷ row) (suc class) h = cell_passes test n row class (and_parts (test (state_of next)) (list_all (λ next. test (state_of next)) row) h).1

-- a row whose kind is of some kinds
pub row_passes : (whole : Option ℕ → Bool) (test : List ℕ → Bool) → whole None ≡ false → test [] ≡ true → (rows : List (List ℕ)) (kinds : List ℕ) (state : ℕ) → rows_pass (λ kind row. not (whole kind) || test row) rows kinds ≡ true → whole (kind_in kinds state) ≡ true → test (get_or rows state []) ≡ true
row_passes whole test w e [] kinds state h g = e
row_passes whole test w e (row ∷ rows) [] state h g = absurd (both_ways (whole None) w g)
row_passes whole test w e (row ∷ rows) (kind ∷ kinds) zero h g =
    implied (whole (kind_number kind)) (test row) (and_parts (not (whole (kind_number kind)) || test row) (rows_pass (λ kind row. not (whole kind) || test row) rows kinds) h).0 g
row_passes whole test w e (row ∷ rows) (kind ∷ kinds) (suc state) h g =
    row_passes whole test w e rows kinds state (and_parts (not (whole (kind_number kind)) || test row) (rows_pass (λ kind row. not (whole kind) || test row) rows kinds) h).1 g

pub state_ends : (gap : ℕ → Bool) (class : ℕ) (rows : List (List ℕ)) (kinds : List ℕ) (state : ℕ) → tokens_end gap class rows kinds ≡ true → is_token_kind gap (kind_in kinds state) ≡ true → step_in rows state class ≡ None
state_ends gap class rows kinds state h g =
    nothing (step_in rows state class) (row_passes (is_token_kind gap) (λ row. is_none (state_of (get_or row class 255))) refl refl rows kinds state h g)

-- what the whole test says

record Passes (gap : ℕ → Bool) (table : Table) : Type 0 where
  start : is_none (kind_in table.kinds 0) ≡ true
  begins : list_all (λ c. is_in_gap gap table.kinds (step_in table.rows 0 (class_of table c))) gap_starts ≡ true
  stays : gaps_stay gap table.kinds table.rows table.kinds ≡ true
  ends : list_all (λ c. tokens_end gap (class_of table c) table.rows table.kinds) spaces ≡ true

passes : (gap : ℕ → Bool) (table : Table) → check_gaps gap table ≡ true → Passes gap table
passes gap table h =
    let start = is_none (kind_in table.kinds 0) in
    let begins = list_all (λ c. is_in_gap gap table.kinds (step_in table.rows 0 (class_of table c))) gap_starts in
    let stays = gaps_stay gap table.kinds table.rows table.kinds in
    let ends = list_all (λ c. tokens_end gap (class_of table c) table.rows table.kinds) spaces in
    let a = and_parts (start && begins && stays) ends h in
    let b = and_parts (start && begins) stays a.0 in
    let c = and_parts start begins b.0 in
    record { start = c.0; begins = c.1; stays = b.1; ends = a.1 }

-- a run that is in a gap stays in gaps
run_stays : (gap : ℕ → Bool) (table : Table) → gaps_stay gap table.kinds table.rows table.kinds ≡ true → (o : Option ℕ) (cs : List ℕ) → is_in_gap gap table.kinds o ≡ true → is_in_gap gap table.kinds (run (automaton_of table) o cs) ≡ true
run_stays gap table h o [] g = g
run_stays gap table h None (c ∷ cs) g = run_stays gap table h None cs refl
run_stays gap table h (Some state) (c ∷ cs) g =
    run_stays gap table h (step_in table.rows state (class_of table c)) cs
    (cell_passes (is_in_gap gap table.kinds) refl (get_or table.rows state []) (class_of table c)
    (row_passes (is_gap_kind gap) (row_stays gap table.kinds) refl refl table.rows table.kinds state h g))

gap_is_whole : (gap : ℕ → Bool) (table : Table) (o : Option ℕ) (kind : ℕ) → is_in_gap gap table.kinds o ≡ true → kind_at (automaton_of table) o ≡ Some kind → gap kind ≡ true
gap_is_whole gap table None kind g e = absurd (cc)
gap_is_whole gap table (Some state) kind g e = ap (is_gap_kind gap) (sym e) ∙ g

starts : (c : ℕ) → (is_space c ≡ true) ⊎ (is_comment_start c ≡ true) → is_among gap_starts c ≡ true
starts c (inl h) = or_right (35 == c) (is_space c) h
starts c (inr h) = elim (or_cases (35 == c) false h) [ inl same ↦ or_left (35 == c) (is_space c) same | inr none ↦ absurd (cc) ]

-- a lexeme that begins as a gap does is one
starts_gap : (gap : ℕ → Bool) (table : Table) → Passes gap table → (c : ℕ) (cs : List ℕ) (kind : ℕ) → is_among gap_starts c ≡ true → Spells (automaton_of table) kind (c ∷ cs) → gap kind ≡ true
starts_gap gap table p c cs kind m s =
    let first = step_in table.rows 0 (class_of table c) in
    gap_is_whole gap table (run (automaton_of table) first cs) kind
    (run_stays gap table p.stays first cs (passes_among (λ d. is_in_gap gap table.kinds (step_in table.rows 0 (class_of table d))) gap_starts c p.begins m)) s

-- white space ends a lexeme that is no gap
token_ends : (gap : ℕ → Bool) (table : Table) → Passes gap table → (o : Option ℕ) (kind c : ℕ) → kind_at (automaton_of table) o ≡ Some kind → gap kind ≡ false → is_space c ≡ true → step_from (automaton_of table) o c ≡ None
token_ends gap table p None kind c e g h = refl
token_ends gap table p (Some state) kind c e g h =
    let whole : is_token_kind gap (kind_in table.kinds state) ≡ true = ap (is_token_kind gap) e ∙ not_from_false (gap kind) g in
    state_ends gap (class_of table c) table.rows table.kinds state
    (passes_among (λ d. tokens_end gap (class_of table d) table.rows table.kinds) spaces c p.ends h) whole

-- a lexeme that stands for a token is no gap
no_gap_kind : {T : Type 0} → (gap : ℕ → Bool) (value : Option T) (t : T) (kind : ℕ) → (gap kind ≡ true → value ≡ None) → value ≡ Some t → gap kind ≡ false
no_gap_kind gap value t kind none v = false_from_ne_true (gap kind) (λ g. let e : None ≡ Some t = sym (none g) ∙ v in absurd (cc))

some_characters : (table : Table) (kind : ℕ) (cs : List ℕ) → is_none (kind_in table.kinds 0) ≡ true → Spells (automaton_of table) kind cs → 0 < length cs
some_characters table kind [] h s = let none : None ≡ Some kind = sym (nothing (kind_in table.kinds 0) h) ∙ s in absurd (cc)
some_characters table kind (c ∷ cs) h s = omega arith

begins_no_gap : (gap : ℕ → Bool) (table : Table) → Passes gap table → (kind : ℕ) (cs : List ℕ) → Spells (automaton_of table) kind cs → gap kind ≡ false → BeginsNoGap cs
begins_no_gap gap table p kind [] s g = tt
begins_no_gap gap table p kind (c ∷ cs) s g = (
  false_from_ne_true (is_space c) (λ h. both_ways (gap kind) g (starts_gap gap table p c cs kind (starts c (inl h)) s)),
  false_from_ne_true (is_comment_start c) (λ h. both_ways (gap kind) g (starts_gap gap table p c cs kind (starts c (inr h)) s)),
)

pub table_is_language : {T : Type 0} → (gap : ℕ → Bool) (table : Table) (grammar : ℕ → List ℕ → Type 0) (value : ℕ → List ℕ → Option T) (spells : T → List ℕ → Type 0) → Knows (automaton_of table) grammar → check_gaps gap table ≡ true → Stand grammar gap value spells → IsLanguage (automaton_of table) value spells
table_is_language {T} gap table grammar value spells knows h s =
    let a = automaton_of table in
    let p = passes gap table h in
    let lexeme = λ (t : T) (cs : List ℕ) (x : spells t cs). s.token t cs x in
    let spelled = λ (t : T) (cs : List ℕ) (x : spells t cs). (knows (lexeme t cs x).0 cs).1 (lexeme t cs x).1 in
    let gapless = λ (t : T) (cs : List ℕ) (x : spells t cs). no_gap_kind gap (value (lexeme t cs x).0 cs) t (lexeme t cs x).0 (s.none (lexeme t cs x).0 cs) (lexeme t cs x).2 in
    record {
      says = λ kind cs x. s.says kind cs ((knows kind cs).0 x);
      token = λ t cs x. ((lexeme t cs x).0, spelled t cs x, (lexeme t cs x).2);
      space = λ cs x. let o = s.space cs x in (o.0, (knows o.0 cs).1 o.1);
      comment = λ cs x. let o = s.comment cs x in (o.0, (knows o.0 cs).1 o.1);
      some = λ t cs x. some_characters table (lexeme t cs x).0 cs p.start (spelled t cs x);
      no_gap = λ t cs x. begins_no_gap gap table p (lexeme t cs x).0 cs (spelled t cs x) (gapless t cs x);
      ends = λ t cs c x w.
          run-append a (Some a.start) cs (c ∷ []) ∙ token_ends gap table p (run a (Some a.start) cs) (lexeme t cs x).0 c (spelled t cs x) (gapless t cs x) w;
    }

-- what leads on passes a test of all that does

row_leads_to : (test : ℕ → ℕ → Bool) (first : ℕ) (row : List ℕ) (place next : ℕ) → row_leads test first row ≡ true → state_of (get_or row place 255) ≡ Some next → test (first + place) next ≡ true
row_leads_to test first [] place next h e = absurd (cc)
row_leads_to test first (cell ∷ row) zero next h e =
    let here = and_parts (passes_next (test first) (state_of cell)) (row_leads test (first + 1) row) h in
    ap (λ n. test n next) (add-zero first) ∙ subst (λ o. passes_next (test first) o ≡ true) e here.0
row_leads_to test first (cell ∷ row) (suc place) next h e =
    let here = and_parts (passes_next (test first) (state_of cell)) (row_leads test (first + 1) row) h in
    ap (λ n. test n next) (omega arith) ∙ row_leads_to test (first + 1) row place next here.1 e

rows_lead_to : (test : ℕ → ℕ → ℕ → Bool) (first : ℕ) (rows : List (List ℕ)) (place class next : ℕ) → rows_lead test first rows ≡ true → step_in rows place class ≡ Some next → test (first + place) class next ≡ true
rows_lead_to test first [] place class next h e = absurd (cc)
rows_lead_to test first (row ∷ rows) zero class next h e =
    let here = and_parts (row_leads (test first) 0 row) (rows_lead test (first + 1) rows) h in
    ap (λ n. test n class next) (add-zero first) ∙ ap (λ n. test first n next) (omega arith) ∙ row_leads_to (test first) 0 row class next here.0 e
rows_lead_to test first (row ∷ rows) (suc place) class next h e =
    let here = and_parts (row_leads (test first) 0 row) (rows_lead test (first + 1) rows) h in
    ap (λ n. test n class next) (omega arith) ∙ rows_lead_to test (first + 1) rows place class next here.1 e

leads_to : (test : ℕ → ℕ → ℕ → Bool) (table : Table) (state c next : ℕ) → rows_lead test 0 table.rows ≡ true → (automaton_of table).step state c ≡ Some next → test state (class_of table c) next ≡ true
leads_to test table state c next h e = ap (λ n. test n (class_of table c) next) (omega arith) ∙ rows_lead_to test 0 table.rows state (class_of table c) next h e

-- a table that is quiet

token_there : (gap : ℕ → Bool) (loud : List ℕ) (first : ℕ) (kinds : List ℕ) (place : ℕ) → tokens_are_quiet gap loud first kinds ≡ true → is_token_kind gap (kind_in kinds place) ≡ true → is_among loud (first + place) ≡ false
token_there gap loud first [] place h t = absurd (cc)
token_there gap loud first (kind ∷ kinds) zero h t =
    let here = and_parts (not (is_token_kind gap (kind_number kind)) || not (is_among loud first)) (tokens_are_quiet gap loud (first + 1) kinds) h in
    ap (is_among loud) (add-zero first) ∙ not-true (is_among loud first) (implied (is_token_kind gap (kind_number kind)) (not (is_among loud first)) here.0 t)
token_there gap loud first (kind ∷ kinds) (suc place) h t =
    let here = and_parts (not (is_token_kind gap (kind_number kind)) || not (is_among loud first)) (tokens_are_quiet gap loud (first + 1) kinds) h in
    ap (is_among loud) (omega arith) ∙ token_there gap loud (first + 1) kinds place here.1 t

among_classes : (table : Table) (cs : List ℕ) (c : ℕ) → is_among cs c ≡ true → is_among (map (class_of table) cs) (class_of table c) ≡ true
among_classes table [] c h = absurd (cc)
among_classes table (x ∷ cs) c h = elim (or_cases (x == c) (is_among cs c) h) [
  | inl same ↦ or_left (class_of table x == class_of table c) (is_among (map (class_of table) cs) (class_of table c)) (eq-eqb (class_of table x) (class_of table c) (ap (class_of table) (eqb-true x c same)))
  | inr other ↦ or_right (class_of table x == class_of table c) (is_among (map (class_of table) cs) (class_of table c)) (among_classes table cs c other)
]

-- Behind a front of these characters a class leads on that is that of the third character of a long quote.
record Opens (table : Table) (quotes : List Quote) (o : Option ℕ) (cs : List ℕ) : Type 0 where
  front : List ℕ
  third : ℕ
  rest : List ℕ
  state : ℕ
  parts : cs ≡ front ++ third ∷ rest
  runs : run (automaton_of table) o front ≡ Some state
  is : is_third table quotes state (class_of table third) ≡ true

opens_here : (table : Table) (quotes : List Quote) (state c : ℕ) (cs : List ℕ) → is_third table quotes state (class_of table c) ≡ true → Opens table quotes (Some state) (c ∷ cs)
opens_here table quotes state c cs h = record { front = []; third = c; rest = cs; state = state; parts = refl; runs = refl; is = h }

opens_later : (table : Table) (quotes : List Quote) (state : ℕ) (c : ℕ) (cs : List ℕ) → Opens table quotes ((automaton_of table).step state c) cs → Opens table quotes (Some state) (c ∷ cs)
opens_later table quotes state c cs o = record { front = c ∷ o.front; third = o.third; rest = o.rest; state = o.state; parts = ap (λ (l : List ℕ). c ∷ l) o.parts; runs = o.runs; is = o.is }

-- From a quiet state a character leads to one, and white space leads nowhere, or long quotes begin.
quiet_step : (loud : List ℕ) (quotes : List Quote) (table : Table) → rows_lead (leads_quietly loud quotes table) 0 table.rows ≡ true → (state c next : ℕ) → is_quiet loud (Some state) ≡ true → (automaton_of table).step state c ≡ Some next → (is_quiet loud (Some next) ≡ true) × (is_space c ≡ false) ⊎ (is_third table quotes state (class_of table c) ≡ true)
quiet_step loud quotes table h state c next q e =
    let quiet = not (is_among loud next) && not (is_among (space_classes table) (class_of table c)) in
    let third = is_third table quotes state (class_of table c) in
    elim (or_cases (is_among loud state) (quiet || third) (leads_to (leads_quietly loud quotes table) table state c next h e)) [
      | inl is ↦ absurd (both_ways (is_among loud state) (not-true (is_among loud state) q) is)
      | inr leads ↦ elim (or_cases quiet third leads) [
        | inr opens ↦ inr opens
        | inl parts ↦
            let both = and_parts (not (is_among loud next)) (not (is_among (space_classes table) (class_of table c))) parts in
            let no = not-true (is_among (space_classes table) (class_of table c)) both.1 in
            inl (both.0, false_from_ne_true (is_space c) (λ s. both_ways (is_among (space_classes table) (class_of table c)) no (among_classes table spaces c s)))
      ]
    ]

-- white space behind these characters leads nowhere, or long quotes begin on the way
abbrev EndsOrOpens : Table → List Quote → Option ℕ → List ℕ → Type 0
EndsOrOpens table quotes o cs = (run (automaton_of table) o cs ≡ None) ⊎ Opens table quotes o cs

goes_on : (table : Table) (quotes : List Quote) (state c : ℕ) (cs : List ℕ) → EndsOrOpens table quotes ((automaton_of table).step state c) cs → EndsOrOpens table quotes (Some state) (c ∷ cs)
goes_on table quotes state c cs (inl none) = inl none
goes_on table quotes state c cs (inr later) = inr (opens_later table quotes state c cs later)

goes_nowhere : (table : Table) (quotes : List Quote) (state c : ℕ) (cs : List ℕ) → (automaton_of table).step state c ≡ None → EndsOrOpens table quotes (Some state) (c ∷ cs)
goes_nowhere table quotes state c cs e = inl (ap (λ o. run (automaton_of table) o cs) e ∙ run-none (automaton_of table) cs)

at_space : (loud : List ℕ) (quotes : List Quote) (table : Table) → rows_lead (leads_quietly loud quotes table) 0 table.rows ≡ true → (state c : ℕ) (o : Option ℕ) → is_quiet loud (Some state) ≡ true → is_space c ≡ true → (automaton_of table).step state c ≡ o → EndsOrOpens table quotes (Some state) (c ∷ [])
at_space loud quotes table h state c None q s e = inl e
at_space loud quotes table h state c (Some next) q s e = elim (quiet_step loud quotes table h state c next q e) [
  | inl quiet ↦ absurd (both_ways (is_space c) quiet.1 s)
  | inr third ↦ inr (opens_here table quotes state c [] third)
]

at_character : (loud : List ℕ) (quotes : List Quote) (table : Table) → rows_lead (leads_quietly loud quotes table) 0 table.rows ≡ true → (state c : ℕ) (cs : List ℕ) (o : Option ℕ) → is_quiet loud (Some state) ≡ true → (automaton_of table).step state c ≡ o → (is_quiet loud o ≡ true → EndsOrOpens table quotes o cs) → EndsOrOpens table quotes (Some state) (c ∷ cs)
at_character loud quotes table h state c cs None q e later = goes_nowhere table quotes state c cs e
at_character loud quotes table h state c cs (Some next) q e later = elim (quiet_step loud quotes table h state c next q e) [
  | inr third ↦ inr (opens_here table quotes state c cs third)
  | inl quiet ↦ goes_on table quotes state c cs (subst (λ o. EndsOrOpens table quotes o cs) (sym e) (later quiet.0))
]

quiet_run : (loud : List ℕ) (quotes : List Quote) (table : Table) → rows_lead (leads_quietly loud quotes table) 0 table.rows ≡ true → (o : Option ℕ) (cs : List ℕ) (c : ℕ) → is_quiet loud o ≡ true → is_space c ≡ true → EndsOrOpens table quotes o (cs ++ c ∷ [])
quiet_run loud quotes table h None cs c q s = inl (run-none (automaton_of table) (cs ++ c ∷ []))
quiet_run loud quotes table h (Some state) [] c q s = at_space loud quotes table h state c ((automaton_of table).step state c) q s refl
quiet_run loud quotes table h (Some state) (d ∷ cs) c q s =
    at_character loud quotes table h state d (cs ++ c ∷ []) ((automaton_of table).step state d) q refl (λ quiet. quiet_run loud quotes table h ((automaton_of table).step state d) cs c quiet s)

quiet_token : (gap : ℕ → Bool) (loud : List ℕ) (table : Table) (o : Option ℕ) (kind : ℕ) → tokens_are_quiet gap loud 0 table.kinds ≡ true → kind_at (automaton_of table) o ≡ Some kind → gap kind ≡ false → is_quiet loud o ≡ true
quiet_token gap loud table None kind h e g = refl
quiet_token gap loud table (Some state) kind h e g =
    not_from_false (is_among loud state)
    (ap (is_among loud) (omega arith) ∙ token_there gap loud 0 table.kinds state h (ap (is_token_kind gap) e ∙ not_from_false (gap kind) g))

-- long quotes

alone_within : (first : ℕ) (interval : ℕ × ℕ) (class c d : ℕ) → (not (interval.1 == class) || ((first == c) && (interval.0 == c))) ≡ true → first ≤ d → d ≤ interval.0 → interval.1 ≡ class → d ≡ c
alone_within first interval class c d h low high e =
    let both = and_parts (first == c) (interval.0 == c) (implied (interval.1 == class) ((first == c) && (interval.0 == c)) h (eq-eqb interval.1 class e)) in
    let first_is = eqb-true first c both.0 in
    let last_is = eqb-true interval.0 c both.1 in
    omega arith

alone_is : (first : ℕ) (intervals : List (ℕ × ℕ)) (others class c d : ℕ) → is_alone first intervals others class c ≡ true → first ≤ d → class_in intervals others d ≡ class → d ≡ c
alone_is first [] others class c d h le e = absurd (both_ways (others == class) (not-true (others == class) h) (eq-eqb others class e))
alone_is first (interval ∷ intervals) others class c d h le e =
    let here = and_parts (not (interval.1 == class) || ((first == c) && (interval.0 == c))) (is_alone (interval.0 + 1) intervals others class c) h in
    elim (cases_lt interval.0 d) [
      | inr within ↦ alone_within first interval class c d here.0 le within (ap (λ (b : Bool). if b then interval.1 else class_in intervals others d) (sym (le-leb d interval.0 within)) ∙ e)
      | inl behind ↦ alone_is (interval.0 + 1) intervals others class c d here.1 (omega arith) (ap (λ (b : Bool). if b then interval.1 else class_in intervals others d) (sym (false_from_ne_true (nat_le d interval.0) (λ t. let le = leb-true d interval.0 t in omega arith))) ∙ e)
    ]

-- the last of the characters that lead to a state
record LastStep (a : Automaton) (o : Option ℕ) (cs : List ℕ) (state : ℕ) : Type 0 where
  front : List ℕ
  last : ℕ
  before : ℕ
  parts : cs ≡ front ++ last ∷ []
  runs : run a o front ≡ Some before
  steps : a.step before last ≡ Some state

last_step : (a : Automaton) (o : Option ℕ) (c : ℕ) (cs : List ℕ) (state : ℕ) → run a o (c ∷ cs) ≡ Some state → LastStep a o (c ∷ cs) state
last_step a None c cs state e = let none : None ≡ Some state = sym (run-none a (c ∷ cs)) ∙ e in absurd (cc)
last_step a (Some s) c [] state e = record { front = []; last = c; before = s; parts = refl; runs = refl; steps = e }
last_step a (Some s) c (d ∷ cs) state e =
    let l = last_step a (a.step s c) d cs state e in
    record { front = c ∷ l.front; last = l.last; before = l.before; parts = ap (λ (l : List ℕ). c ∷ l) l.parts; runs = l.runs; steps = l.steps }

-- characters that lead from the start to another state have a last one
last_from_start : (table : Table) (cs : List ℕ) (state : ℕ) → not (state == 0) ≡ true → run (automaton_of table) (Some 0) cs ≡ Some state → LastStep (automaton_of table) (Some 0) cs state
last_from_start table [] state n e =
    let same : 0 ≡ state = cc in
    absurd (both_ways (state == 0) (not-true (state == 0) n) (eq-eqb state 0 (sym same)))
last_from_start table (c ∷ cs) state n e = last_step (automaton_of table) (Some 0) c cs state e

-- the tests of a long quote, taken apart
record Quoted (table : Table) (q : Quote) : Type 0 where
  once : not (q.once == 0) ≡ true
  twice : not (q.twice == 0) ≡ true
  alone : (c : ℕ) → class_of table q.character ≡ class_of table c → c ≡ q.character
  to_once : (state c : ℕ) → (automaton_of table).step state c ≡ Some q.once → class_of table q.character ≡ class_of table c
  to_twice : (state c : ℕ) → (automaton_of table).step state c ≡ Some q.twice → (q.once ≡ state) × (class_of table q.character ≡ class_of table c)

quoted : (table : Table) (q : Quote) → is_quote table q ≡ true → Quoted table q
quoted table q h =
    let class = class_of table q.character in
    let apart = not (q.once == 0) && not (q.twice == 0) in
    let alone = is_alone 0 table.intervals table.others class q.character in
    let once = λ (state c next : ℕ). not (next == q.once) || (class == c) in
    let twice = λ (state c next : ℕ). not (next == q.twice) || ((q.once == state) && (class == c)) in
    let last = and_parts (apart && alone && rows_lead once 0 table.rows) (rows_lead twice 0 table.rows) h in
    let third = and_parts (apart && alone) (rows_lead once 0 table.rows) last.0 in
    let second = and_parts apart alone third.0 in
    let first = and_parts (not (q.once == 0)) (not (q.twice == 0)) second.0 in
    record {
      once = first.0;
      twice = first.1;
      alone = λ c e. alone_is 0 table.intervals table.others class q.character c second.1 (omega arith) (sym e);
      to_once = λ state c e. eqb-true class (class_of table c) (implied (q.once == q.once) (class == class_of table c) (leads_to once table state c q.once third.1 e) (eq-eqb q.once q.once refl));
      to_twice = λ state c e.
          let both = and_parts (q.once == state) (class == class_of table c) (implied (q.twice == q.twice) ((q.once == state) && (class == class_of table c)) (leads_to twice table state c q.twice last.1 e) (eq-eqb q.twice q.twice refl)) in
          (eqb-true q.once state both.0, eqb-true class (class_of table c) both.1);
    }

three_alike : (c : ℕ) (front rest : List ℕ) → ((front ++ c ∷ []) ++ c ∷ []) ++ c ∷ rest ≡ front ++ ((c ∷ c ∷ c ∷ []) ++ rest)
three_alike c front rest = append_assoc (front ++ c ∷ []) (c ∷ []) (c ∷ rest) ∙ append_assoc front (c ∷ []) (c ∷ c ∷ rest)

-- behind two of its characters the third makes the word
third_stands : (table : Table) (q : Quote) → Quoted table q → (cs : List ℕ) (third : ℕ) (rest : List ℕ) → run (automaton_of table) (Some 0) cs ≡ Some q.twice → class_of table q.character ≡ class_of table third → Holds (q.character ∷ q.character ∷ q.character ∷ []) (cs ++ third ∷ rest)
third_stands table q t cs third rest runs class =
    let two = last_from_start table cs q.twice t.twice runs in
    let came = t.to_twice two.before two.last two.steps in
    let one = last_from_start table two.front q.once t.once (two.runs ∙ ap Some (sym came.0)) in
    let first : one.last ≡ q.character = t.alone one.last (t.to_once one.before one.last one.steps) in
    let second : two.last ≡ q.character = t.alone two.last came.1 in
    let fronts : cs ≡ (one.front ++ q.character ∷ []) ++ q.character ∷ [] =
    two.parts ∙ ap (λ (l : List ℕ). l ++ two.last ∷ []) (one.parts ∙ ap (λ (n : ℕ). one.front ++ n ∷ []) first) ∙ ap (λ (n : ℕ). (one.front ++ q.character ∷ []) ++ n ∷ []) second in
    record {
      front = one.front;
      rest = rest;
      parts =
          ap (λ (l : List ℕ). l ++ third ∷ rest) fronts ∙ ap (λ (n : ℕ). ((one.front ++ q.character ∷ []) ++ q.character ∷ []) ++ n ∷ rest) (t.alone third class)
          ∙ three_alike q.character one.front rest;
    }

opened : (table : Table) (quotes : List Quote) → list_all (is_quote table) quotes ≡ true → (cs : List ℕ) (third : ℕ) (rest : List ℕ) (state : ℕ) → run (automaton_of table) (Some 0) cs ≡ Some state → is_third table quotes state (class_of table third) ≡ true → HoldsOne (words_of quotes) (cs ++ third ∷ rest)
opened table [] h cs third rest state runs is = absurd (cc)
opened table (q ∷ quotes) h cs third rest state runs is =
    let here = and_parts (is_quote table q) (list_all (is_quote table) quotes) h in
    let this = (q.twice == state) && (class_of table q.character == class_of table third) in
    elim (or_cases this (is_third table quotes state (class_of table third)) is) [
      | inr other ↦ inr (opened table quotes here.1 cs third rest state runs other)
      | inl same ↦
          let both = and_parts (q.twice == state) (class_of table q.character == class_of table third) same in
          inl (third_stands table q (quoted table q here.0) cs third rest (runs ∙ ap Some (sym (eqb-true q.twice state both.0))) (eqb-true (class_of table q.character) (class_of table third) both.1))
    ]

opened_behind : (table : Table) (quotes : List Quote) → list_all (is_quote table) quotes ≡ true → (cs more : List ℕ) → Opens table quotes (run (automaton_of table) (Some 0) cs) more → HoldsOne (words_of quotes) (cs ++ more)
opened_behind table quotes h cs more o =
    subst (HoldsOne (words_of quotes)) (append_assoc cs o.front (o.third ∷ o.rest) ∙ ap (λ (l : List ℕ). cs ++ l) (sym o.parts))
    (opened table quotes h (cs ++ o.front) o.third o.rest o.state (run-append (automaton_of table) (Some 0) cs o.front ∙ o.runs) o.is)

gap_kind_of : (gap : ℕ → Bool) (o : Option ℕ) → is_gap_kind gap o ≡ true → (kind : ℕ) × (o ≡ Some kind)
gap_kind_of gap None h = absurd (cc)
gap_kind_of gap (Some kind) h = (kind, refl)

gap_spells : (gap : ℕ → Bool) (table : Table) (o : Option ℕ) (state : ℕ) → o ≡ Some state → is_in_gap gap table.kinds o ≡ true → (kind : ℕ) × (kind_at (automaton_of table) o ≡ Some kind)
gap_spells gap table None state e h = absurd (cc)
gap_spells gap table (Some other) state e h = gap_kind_of gap (kind_in table.kinds other) h

pub table_is_prompt : {T : Type 0} → (gap : ℕ → Bool) (loud : List ℕ) (quotes : List Quote) (table : Table) (grammar : ℕ → List ℕ → Type 0) (value : ℕ → List ℕ → Option T) (spells : T → List ℕ → Type 0) → Knows (automaton_of table) grammar → check_gaps gap table ≡ true → check_quiet gap loud quotes table ≡ true → Stand grammar gap value spells → IsPrompt (automaton_of table) spells (words_of quotes)
table_is_prompt gap loud quotes table grammar value spells knows h q s =
    let a = automaton_of table in
    let p = passes gap table h in
    let rows = rows_lead (leads_quietly loud quotes table) 0 table.rows in
    let all = and_parts (rows && tokens_are_quiet gap loud 0 table.kinds) (list_all (is_quote table) quotes) q in
    let quiet = and_parts rows (tokens_are_quiet gap loud 0 table.kinds) all.0 in
    record {
      token = λ t cs more c x w.
          let lexeme = s.token t cs x in
          let gapless = no_gap_kind gap (value lexeme.0 cs) t lexeme.0 (s.none lexeme.0 cs) lexeme.2 in
          elim (quiet_run loud quotes table quiet.0 (run a (Some a.start) cs) more c (quiet_token gap loud table (run a (Some a.start) cs) lexeme.0 quiet.1 ((knows lexeme.0 cs).1 lexeme.1) gapless) w) [
            | inl none ↦ inl (run-append a (Some a.start) cs (more ++ c ∷ []) ∙ none)
            | inr opens ↦ inr (opened_behind table quotes all.1 cs (more ++ c ∷ []) opens)
          ];
      gap = λ c cs state begins e.
          let first = step_in table.rows 0 (class_of table c) in
          gap_spells gap table (run a first cs) state e
          (run_stays gap table p.stays first cs (passes_among (λ d. is_in_gap gap table.kinds (step_in table.rows 0 (class_of table d))) gap_starts c p.begins (starts c begins)));
    }
