-- In front of each abbreviated IRI stands an act that takes it for an IRI, or else the one act that declares the name.
use Rattle.std.proofs.Common.{◌≡◌, ◌⊎◌, inl, inr, ℕ, zero, suc, ◌+◌, Bool, true, false, not, cond, List, [], ◌∷◌, ◌++◌, map, append-nil, append_assoc, get_or, refl, sym, ap, ◌∙◌, subst, arith}
use Rattle.std.specs.Prelude.{◌==◌, ◌&&◌, ◌||◌, if◌then◌else◌}
use Rattle.std.specs.List.{list_all, list_any}
use Rattle.std.proofs.lemmas.Bool.{and_parts, eqb-true, false≢true, or_cases}
use Rattle.std.proofs.lemmas.List.Folds.{list_any-append}
use Rattle.grammar.specs.Derivations.{Derives, Event, own_class}
use Rattle.grammar.specs.Derivations.Event.{Do, Take}
use Rattle.grammar.specs.Grammars.{Among, Entry, Row, entry, no_entry}
use Rattle.grammar.specs.Grammars.Among.{behind, here}
use Rattle.grammar.specs.Lowering.{lower}
use Rattle.grammar.proofs.PartLaws.{means, yields}
use Rattle.grammar.proofs.YieldLaws.{IsMeaning, Means}
use Rattle.grammar.specs.declared.symbol.Symbol.{Symbol}
use Rattle.grammar.specs.declared.symbol.Symbol.TheVariants.{Act, Need, Rule}
use Rattle.owl_reader.specs.Steps.{Step, events_of}
use Rattle.owl_tokens.specs.declared.token.Token.{Token}
use Rattle.owl_tree.specs.declared.row.AtomSort.TheVariants as atom
use Rattle.owl_tree.specs.Rows.{Leaf, row_of}
use Rattle.owl_tree.specs.Rows as trees
use Rattle.owl_tree.specs.Tags.{all_tags, number_of}
use Rattle.fss_grammar.specs.Acts.{act_number}
use Rattle.fss_grammar.specs.Classes.{Class, class_number, class_of}
use Rattle.fss_grammar.specs.Meaning.{Events}
use Rattle.fss_grammar.specs.Table.{functional, functional_document, functional_prefixes, functional_header, functional_version, functional_imports, functional_annotations, functional_axioms, functional_axiom, functional_iri, functional_suffix, functional_after, functional_behind, functional_one_notes, functional_one_annotation, functional_one_annotation_property, functional_one_annotation_subject, functional_one_annotation_value, functional_one_iri, functional_one_class_expression, functional_one_class, functional_one_data_range, functional_one_datatype, functional_one_object_property_expression, functional_one_object_property, functional_one_sub_object_property_expression, functional_one_data_property_expression, functional_one_individual, functional_one_literal, functional_one_number, functional_one_facet, functional_one_facet_pair, functional_one_object_keys, functional_one_data_keys, functional_one_entity, functional_many_annotation, functional_many_class_expression, functional_many_data_range, functional_many_object_property_expression, functional_many_data_property_expression, functional_many_individual, functional_many_literal, functional_many_facet_pair, functional_maybe_class_expression, functional_maybe_data_range}
use Rattle.fss_grammar.specs.declared.acts.Act as acts
use Rattle.fss_grammar.specs.declared.acts.Act.TheVariants.{Begin, DeclareName, Hold, ImportIri, OntologyIri, Typed, VersionIri}

-- ---- acts that take an IRI

abbrev pub holds_iri : trees.Row → Bool
holds_iri (Leaf atom.Iri) = true
holds_iri _ = false

abbrev pub takes_iri : acts.Act → Bool
takes_iri (Begin t) = holds_iri (row_of t)
takes_iri Typed = true
takes_iri Hold = true
takes_iri OntologyIri = true
takes_iri VersionIri = true
takes_iri ImportIri = true
takes_iri _ = false

abbrev has_number : ℕ → acts.Act → Bool
has_number a act = takes_iri act && (act_number act == a)

abbrev candidates : List acts.Act
candidates = map Begin all_tags ++ (Typed ∷ Hold ∷ OntologyIri ∷ VersionIri ∷ ImportIri ∷ [])

-- the act of this number takes an IRI
abbrev pub uses : ℕ → Bool
uses a = list_any (has_number a) candidates

pub record TakesIri (a : ℕ) : Type 0 where
  pub act : acts.Act
  pub number_is : act_number act ≡ a
  pub takes : takes_iri act ≡ true

one_takes : (a : ℕ) (all : List acts.Act) → list_any (has_number a) all ≡ true → TakesIri a
one_takes a [] h = absurd (false≢true h)
one_takes a (act ∷ others) h = elim (or_cases (has_number a act) (list_any (has_number a) others) h) [
  | inl e ↦ let it = and_parts (takes_iri act) (act_number act == a) e in record { act = act; number_is = eqb-true (act_number act) a it.1; takes = it.0 }
  | inr e ↦ one_takes a others e
]

pub used_takes : (a : ℕ) → uses a ≡ true → TakesIri a
used_takes a h = one_takes a candidates h

-- ---- what stands in front of a name

-- the class of an abbreviated IRI
abbrev pub is_short : ℕ → Bool
is_short c = (c == class_number Class.name) || (c == class_number Class.alone)

abbrev pub AreOfName : List ℕ → Type 0
AreOfName before = (list_any uses before ≡ true) ⊎ (before ≡ act_number DeclareName ∷ [])

-- Behind these acts, the acts in front of each name are of a name.
abbrev pub NamesFit : List ℕ → List (Event ℕ) → Type 0
NamesFit before [] = Unit {0}
NamesFit before (Take c ∷ es) = (is_short c ≡ true → AreOfName before) × NamesFit [] es
NamesFit before (Do a ∷ es) = NamesFit (before ++ a ∷ []) es

-- ---- tests of the table

-- what is known of the acts behind the last token: nothing, that there are none, that one takes an IRI, or that one declares a name
data Known : Type 0 where
  little none taken declared : Known

abbrev Holds : Known → List ℕ → Type 0
Holds little before = Unit {0}
Holds none before = before ≡ []
Holds taken before = list_any uses before ≡ true
Holds declared before = before ≡ act_number DeclareName ∷ []

abbrev from_none : ℕ → Known
from_none a = if a == act_number DeclareName then declared else little

abbrev behind_act : Known → ℕ → Known
behind_act taken a = taken
behind_act none a = if uses a then taken else from_none a
behind_act _ a = if uses a then taken else little

abbrev serves : Known → Bool
serves taken = true
serves declared = true
serves _ = false

abbrev is_taken : Known → Bool
is_taken taken = true
is_taken _ = false

-- the number of the rule of IRIs, which is the one that begins with a name
abbrev is_iri_rule : ℕ → Bool
is_iri_rule r = r == 8

abbrev fits : Known → List Symbol → Bool
fits known [] = true
fits known (Need c ∷ ss) = (not (is_short c) || serves known) && fits none ss
fits known (Act a ∷ ss) = fits (behind_act known a) ss
fits known (Rule r ∷ ss) = if is_iri_rule r then is_taken known && fits none ss else fits little ss

abbrev all_fit : ℕ → List Entry → Bool
all_fit n [] = true
all_fit n (e ∷ es) = (is_iri_rule n || list_all (λ (row : Row). fits little row.symbols) e.rows) && all_fit (n + 1) es

table_fits : all_fit 0 functional ≡ true
unfolding number_of all_tags row_of functional functional_document functional_prefixes functional_header functional_version functional_imports functional_annotations functional_axioms functional_axiom functional_iri functional_suffix functional_after functional_behind functional_one_notes functional_one_annotation functional_one_annotation_property functional_one_annotation_subject functional_one_annotation_value functional_one_iri functional_one_class_expression functional_one_class functional_one_data_range functional_one_datatype functional_one_object_property_expression functional_one_object_property functional_one_sub_object_property_expression functional_one_data_property_expression functional_one_individual functional_one_literal functional_one_number functional_one_facet functional_one_facet_pair functional_one_object_keys functional_one_data_keys functional_one_entity functional_many_annotation functional_many_class_expression functional_many_data_range functional_many_object_property_expression functional_many_data_property_expression functional_many_individual functional_many_literal functional_many_facet_pair functional_maybe_class_expression functional_maybe_data_range
table_fits = refl

row_fits : (rows : List Row) (row : Row) → list_all (λ (row : Row). fits little row.symbols) rows ≡ true → Among row rows → fits little row.symbols ≡ true
row_fits [] row h a = elim a [ ]
row_fits (one ∷ rows) row h here = (and_parts (fits little one.symbols) _ h).0
row_fits (other ∷ rows) row h (behind a) = row_fits rows row (and_parts (fits little other.symbols) _ h).1 a

other_fits : (b rest : Bool) → (b || rest) ≡ true → b ≡ false → rest ≡ true
other_fits true rest h e = absurd (cc)
other_fits false rest h e = h

rule_fits : (n : ℕ) (g : List Entry) (r k : ℕ) (row : Row) → k ≡ n + r → all_fit n g ≡ true → is_iri_rule k ≡ false → Among row (get_or g r no_entry).rows → fits little row.symbols ≡ true
rule_fits n [] r k row e h other a = elim a [ ]
rule_fits n (one ∷ g) zero k row e h other a =
    let same : k ≡ n = omega (arith, e) in
    row_fits one.rows row (other_fits (is_iri_rule n) _ (and_parts _ (all_fit (n + 1) g) h).0 (subst (λ (x : ℕ). is_iri_rule x ≡ false) same other)) a
rule_fits n (one ∷ g) (suc r) k row e h other a = rule_fits (n + 1) g r k row (omega (arith, e)) (and_parts _ (all_fit (n + 1) g) h).1 other a

-- the alternatives of an IRI are of one token
iri_row : (row : Row) → Among row (entry functional 8).rows → (c : ℕ) × (row.symbols ≡ Need c ∷ [])
unfolding functional functional_iri
iri_row row here = (_, refl)
iri_row row (behind here) = (_, refl)
iri_row row (behind (behind here)) = (_, refl)
iri_row row (behind (behind (behind a))) = elim a [ ]

-- ---- what rules mean for names

-- Where an IRI is taken, the names of a rule fit; of the rule of IRIs, only there.
abbrev FitIf : Bool → List (Event ℕ) → Type 0
FitIf true es = (before : List ℕ) → list_any uses before ≡ true → (fs : List (Event ℕ)) → NamesFit [] fs → NamesFit before (es ++ fs)
FitIf false es = (before : List ℕ) (fs : List (Event ℕ)) → ((after : List ℕ) → NamesFit after fs) → NamesFit before (es ++ fs)

abbrev Fit : ℕ → List ℕ → List (Event ℕ) → Type 0
Fit r xs es = FitIf (is_iri_rule r) es

or_right : (a b : Bool) → b ≡ true → (a || b) ≡ true
or_right true b h = refl
or_right false b h = h

any_before : (a : ℕ) (before : List ℕ) → list_any uses before ≡ true → list_any uses (before ++ a ∷ []) ≡ true
any_before a before h = list_any-append uses before (a ∷ []) ∙ ap (λ b. b || list_any uses (a ∷ [])) h

any_last : (a : ℕ) (before : List ℕ) → uses a ≡ true → list_any uses (before ++ a ∷ []) ≡ true
any_last a before h =
    list_any-append uses before (a ∷ []) ∙ or_right (list_any uses before) (list_any uses (a ∷ [])) (ap (λ b. b || false) h)

little_known : (b : Bool) (a : ℕ) (before : List ℕ) → uses a ≡ b → Holds (cond b taken little) (before ++ a ∷ [])
little_known true a before e = any_last a before e
little_known false a before e = tt

first_known : (b : Bool) (a : ℕ) (before : List ℕ) → (a == act_number DeclareName) ≡ b → before ≡ [] → Holds (cond b declared little) (before ++ a ∷ [])
first_known true a before e h = let same = eqb-true a (act_number DeclareName) e in λ i. h i ++ same i ∷ []
first_known false a before e h = tt

none_known : (b : Bool) (a : ℕ) (before : List ℕ) → uses a ≡ b → before ≡ [] → Holds (cond b taken (from_none a)) (before ++ a ∷ [])
none_known true a before e h = any_last a before e
none_known false a before e h = first_known (a == act_number DeclareName) a before refl h

act_known : (known : Known) (a : ℕ) (before : List ℕ) → Holds known before → Holds (behind_act known a) (before ++ a ∷ [])
act_known little a before h = little_known (uses a) a before refl
act_known none a before h = none_known (uses a) a before refl h
act_known taken a before h = any_before a before h
act_known declared a before h = little_known (uses a) a before refl

serves_name : (known : Known) (before : List ℕ) → Holds known before → serves known ≡ true → AreOfName before
serves_name taken before h e = inl h
serves_name declared before h e = inr h
serves_name _ before h e = absurd (false≢true e)

is_taken_holds : (known : Known) (before : List ℕ) → Holds known before → is_taken known ≡ true → list_any uses before ≡ true
is_taken_holds taken before h e = h
is_taken_holds _ before h e = absurd (false≢true e)

short_serves : (c : ℕ) (known : Known) (before : List ℕ) → (not (is_short c) || serves known) ≡ true → Holds known before → is_short c ≡ true → AreOfName before
short_serves c known before test h short =
    serves_name known before h (other_fits (not (is_short c)) (serves known) test (ap not short))

abbrev Behind : List (Event ℕ) → Type 0
Behind fs = (after : List ℕ) → NamesFit after fs

-- a rule, and then symbols whose names fit where they pass the test
part_fits : (b : Bool) (known : Known) (ss : List Symbol) (es more : List (Event ℕ)) → cond b (is_taken known && fits none ss) (fits little ss) ≡ true → FitIf b es → ((known : Known) → fits known ss ≡ true → (after : List ℕ) → Holds known after → NamesFit after more) → (before : List ℕ) → Holds known before → NamesFit before (es ++ more)
part_fits true known ss es more test front back before h =
    let both = and_parts (is_taken known) (fits none ss) test in
    front before (is_taken_holds known before h both.0) more (back none both.1 [] refl)
part_fits false known ss es more test front back before h = front before more (λ after. back little test after tt)

symbols_fit : (known : Known) (ss : List Symbol) (xs : List ℕ) (es : List (Event ℕ)) → fits known ss ≡ true → Means own_class Fit ss xs es → (before : List ℕ) → Holds known before → (fs : List (Event ℕ)) → Behind fs → NamesFit before (es ++ fs)
symbols_fit known [] xs es test it before h fs later = subst (λ (l : List (Event ℕ)). NamesFit before (l ++ fs)) (sym it.events_are) (later before)
symbols_fit known (Need c ∷ ss) xs es test it before h fs later =
    let both = and_parts (not (is_short c) || serves known) (fits none ss) test in
    subst (λ (l : List (Event ℕ)). NamesFit before (l ++ fs)) (sym it.events_are) (
      (λ short. short_serves c known before both.0 h (subst (λ (x : ℕ). is_short x ≡ true) it.class short)),
      symbols_fit none ss it.more_tokens it.more_events both.1 it.more [] refl fs later,
    )
symbols_fit known (Act a ∷ ss) xs es test it before h fs later =
    subst (λ (l : List (Event ℕ)). NamesFit before (l ++ fs)) (sym it.events_are)
    (symbols_fit (behind_act known a) ss xs it.more_events test it.more (before ++ a ∷ []) (act_known known a before h) fs later)
symbols_fit known (Rule r ∷ ss) xs es test it before h fs later =
    subst (λ (l : List (Event ℕ)). NamesFit before (l ++ fs)) (sym it.events_are)
    (subst (NamesFit before) (sym (append_assoc it.front_events it.back_events fs))
    (part_fits (is_iri_rule r) known ss it.front_events (it.back_events ++ fs) test it.front
    (λ now passes after k. symbols_fit now ss it.back_tokens it.back_events passes it.back after k fs later) before h))

one_token : (c : ℕ) (xs : List ℕ) (es : List (Event ℕ)) → Means own_class Fit (Need c ∷ []) xs es → FitIf true es
one_token c xs es it before used fs later =
    subst (λ (l : List (Event ℕ)). NamesFit before (l ++ fs)) (sym (it.events_are ∙ ap (λ (l : List (Event ℕ)). Take it.token ∷ l) it.more.events_are))
    ((λ short. inl used), later)

row_means : (b : Bool) (r : ℕ) (row : Row) → is_iri_rule r ≡ b → Among row (entry functional r).rows → (xs : List ℕ) (es : List (Event ℕ)) → Means own_class Fit row.symbols xs es → FitIf b es
row_means true r row e a xs es it =
    let one = iri_row row (subst (λ (x : ℕ). Among row (entry functional x).rows) (eqb-true r 8 e) a) in
    one_token one.0 xs es (subst (λ ss. Means own_class Fit ss xs es) one.1 it)
row_means false r row e a xs es it = λ before fs later.
    symbols_fit little row.symbols xs es (rule_fits 0 functional r r row (omega arith) table_fits e a) it before tt fs later

-- in each document the names fit
names_fit : (classes : List ℕ) (es : List (Event ℕ)) → Derives functional (Rule 0 ∷ []) classes es → NamesFit [] es
names_fit classes es d =
    let fit : IsMeaning own_class functional Fit = record { row = λ r row a xs es it. row_means (is_iri_rule r) r row refl a xs es it } in
    let it = means fit (yields d) in
    let events = it.events_are ∙ ap (λ (l : List (Event ℕ)). it.front_events ++ l) it.back.events_are in
    subst (NamesFit []) (sym events) (it.front [] [] (λ after. tt))

-- ---- behind tokens, and behind acts

fit_behind_acts : (before acts : List ℕ) (x : Token) (es : Events) (more : List (Event ℕ)) → NamesFit before (map (lower class_of) (map Do acts ++ Take x ∷ es) ++ more) → NamesFit [] (map (lower class_of) es ++ more)
fit_behind_acts before [] x es more h = h.1
fit_behind_acts before (a ∷ acts) x es more h = fit_behind_acts (before ++ a ∷ []) acts x es more h

fit_behind : (steps : List (Step Token)) (more : List (Event ℕ)) → NamesFit [] (map (lower class_of) (events_of steps) ++ more) → NamesFit [] more
fit_behind [] more h = h
fit_behind (s ∷ steps) more h = fit_behind steps more (fit_behind_acts [] s.acts s.token.token (events_of steps) more h)

acts_of_name : (before acts : List ℕ) (c : ℕ) (rest : List (Event ℕ)) → NamesFit before (map Do acts ++ Take c ∷ rest) → is_short c ≡ true → AreOfName (before ++ acts)
acts_of_name before [] c rest h short = subst AreOfName (sym (append-nil before)) (h.0 short)
acts_of_name before (a ∷ acts) c rest h short =
    subst AreOfName (append_assoc before (a ∷ []) acts) (acts_of_name (before ++ a ∷ []) acts c rest h short)

-- The acts in front of a name are of a name.
pub names_have_acts : (classes : List ℕ) (steps : List (Step Token)) (acts : List ℕ) (c : ℕ) (rest : List (Event ℕ)) → Derives functional (Rule 0 ∷ []) classes (map (lower class_of) (events_of steps) ++ (map Do acts ++ Take c ∷ rest)) → is_short c ≡ true → AreOfName acts
names_have_acts classes steps acts c rest d short =
    acts_of_name [] acts c rest (fit_behind steps (map Do acts ++ Take c ∷ rest) (names_fit classes _ d)) short
