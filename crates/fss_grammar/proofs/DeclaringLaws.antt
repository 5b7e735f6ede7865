-- Prefixes are declared first: behind the keyword Ontology, and behind any act that is of no declaration, none is declared.
use Rattle.std.proofs.Common.{◌≡◌, ℕ, zero, suc, Bool, true, false, not, List, [], ◌∷◌, ◌++◌, append-nil, drop, get_or, refl, sym, ap, ◌∙◌, subst}
use Rattle.std.specs.List.{list_all}
use Rattle.std.proofs.lemmas.Bool.{and_parts, false≢true, true≢false}
use Rattle.grammar.specs.Derivations.{DerivesOf, Event}
use Rattle.grammar.specs.Derivations.Event.{Do, Take}
use Rattle.grammar.specs.Grammars.{Among, Entry, Row, entry, no_entry}
use Rattle.grammar.specs.Grammars.Among.{behind, here}
use Rattle.grammar.proofs.PartLaws.{means, yields}
use Rattle.grammar.proofs.YieldLaws.{IsMeaning, Means}
use Rattle.grammar.specs.declared.symbol.Symbol.{Symbol}
use Rattle.grammar.specs.declared.symbol.Symbol.TheVariants.{Act, Need, Rule}
use Rattle.fss_grammar.specs.Classes.{Class, class_number}
use Rattle.fss_grammar.proofs.SoundLaws.{append_then}
use Rattle.fss_grammar.specs.Table.{functional, functional_document, functional_prefixes, functional_header, functional_version, functional_imports, functional_annotations, functional_axioms, functional_axiom, functional_iri, functional_suffix, functional_after, functional_behind, functional_one_notes, functional_one_annotation, functional_one_annotation_property, functional_one_annotation_subject, functional_one_annotation_value, functional_one_iri, functional_one_class_expression, functional_one_class, functional_one_data_range, functional_one_datatype, functional_one_object_property_expression, functional_one_object_property, functional_one_sub_object_property_expression, functional_one_data_property_expression, functional_one_individual, functional_one_literal, functional_one_number, functional_one_facet, functional_one_facet_pair, functional_one_object_keys, functional_one_data_keys, functional_one_entity, functional_many_annotation, functional_many_class_expression, functional_many_data_range, functional_many_object_property_expression, functional_many_data_property_expression, functional_many_individual, functional_many_literal, functional_many_facet_pair, functional_maybe_class_expression, functional_maybe_data_range}
use Rattle.fss_grammar.specs.Declaring.{DeclareNothing, EventsPass, OnlyDeclare, OntologyBehind, declares, is_of_declaration, is_ontology}

-- Once the keyword Ontology is taken, or an act is done that is of no declaration, nothing is declared any more.
abbrev pub DeclareFirst : {X : Type 0} → (X → ℕ) → List (Event X) → Type 0
DeclareFirst class_of [] = Unit {0}
DeclareFirst class_of (Take x ∷ es) = (is_ontology (class_of x) ≡ true → DeclareNothing es) × DeclareFirst class_of es
DeclareFirst class_of (Do a ∷ es) = (is_of_declaration a ≡ false → DeclareNothing es) × DeclareFirst class_of es

-- ---- what the events of symbols pass

pass-append : {X : Type 0} (class_of : X → ℕ) (words acts : ℕ → Bool) (es fs : List (Event X)) → EventsPass class_of words acts es → EventsPass class_of words acts fs → EventsPass class_of words acts (es ++ fs)
pass-append class_of words acts [] fs h k = k
pass-append class_of words acts (Take x ∷ es) fs h k = (h.0, pass-append class_of words acts es fs h.1 k)
pass-append class_of words acts (Do a ∷ es) fs h k = (h.0, pass-append class_of words acts es fs h.1 k)

abbrev passes : (ℕ → Bool) → (ℕ → Bool) → (ℕ → Bool) → Symbol → Bool
passes words acts rules (Need c) = words c
passes words acts rules (Act a) = acts a
passes words acts rules (Rule r) = rules r

-- where these classes and acts pass, and the events of these rules do, the events of symbols pass
events_pass : {X : Type 0} (class_of : X → ℕ) (words acts rules : ℕ → Bool) (meaning : ℕ → List X → List (Event X) → Type 0) → ((r : ℕ) (xs : List X) (es : List (Event X)) → rules r ≡ true → meaning r xs es → EventsPass class_of words acts es) → (ss : List Symbol) (xs : List X) (es : List (Event X)) → list_all (passes words acts rules) ss ≡ true → Means class_of meaning ss xs es → EventsPass class_of words acts es
events_pass class_of words acts rules meaning each [] xs es h it = subst (EventsPass class_of words acts) (sym it.events_are) tt
events_pass class_of words acts rules meaning each (Need c ∷ ss) xs es h it =
    let both = and_parts (words c) (list_all (passes words acts rules) ss) h in
    subst (EventsPass class_of words acts) (sym it.events_are)
    (ap words it.class ∙ both.0, events_pass class_of words acts rules meaning each ss it.more_tokens it.more_events both.1 it.more)
events_pass class_of words acts rules meaning each (Act a ∷ ss) xs es h it =
    let both = and_parts (acts a) (list_all (passes words acts rules) ss) h in
    subst (EventsPass class_of words acts) (sym it.events_are)
    (both.0, events_pass class_of words acts rules meaning each ss xs it.more_events both.1 it.more)
events_pass class_of words acts rules meaning each (Rule r ∷ ss) xs es h it =
    let both = and_parts (rules r) (list_all (passes words acts rules) ss) h in
    subst (EventsPass class_of words acts) (sym it.events_are)
    (pass-append class_of words acts it.front_events it.back_events (each r it.front_tokens it.front_events both.0 it.front)
    (events_pass class_of words acts rules meaning each ss it.back_tokens it.back_events both.1 it.back))

row_passes : (test : List Symbol → Bool) (rows : List Row) (row : Row) → list_all (λ (row : Row). test row.symbols) rows ≡ true → Among row rows → test row.symbols ≡ true
row_passes test [] row h a = elim a [ ]
row_passes test (one ∷ rows) row h here = (and_parts (test one.symbols) _ h).0
row_passes test (other ∷ rows) row h (behind a) = row_passes test rows row (and_parts (test other.symbols) _ h).1 a

-- each alternative of each rule passes
abbrev all_pass : (List Symbol → Bool) → List Entry → Bool
all_pass test g = list_all (λ (e : Entry). list_all (λ (row : Row). test row.symbols) e.rows) g

rule_passes : (test : List Symbol → Bool) (g : List Entry) (r : ℕ) (row : Row) → all_pass test g ≡ true → Among row (get_or g r no_entry).rows → test row.symbols ≡ true
rule_passes test [] r row h a = elim a [ ]
rule_passes test (e ∷ g) zero row h a = row_passes test e.rows row (and_parts _ (all_pass test g) h).0 a
rule_passes test (e ∷ g) (suc r) row h a = rule_passes test g r row (and_parts _ (all_pass test g) h).1 a

-- ---- the table

-- the rules behind that of documents and that of declarations
abbrev is_behind : ℕ → Bool
is_behind zero = false
is_behind (suc zero) = false
is_behind (suc (suc r)) = true

abbrev is_prefixes : ℕ → Bool
is_prefixes zero = false
is_prefixes (suc zero) = true
is_prefixes (suc (suc r)) = false

abbrev behind_passes : List Symbol → Bool
behind_passes ss = list_all (passes (λ c. true) (λ a. not (declares a)) is_behind) ss

abbrev prefixes_pass : List Symbol → Bool
prefixes_pass ss = list_all (passes (λ c. not (is_ontology c)) is_of_declaration is_prefixes) ss

rules_behind : all_pass behind_passes (drop 2 functional) ≡ true
unfolding functional functional_document functional_prefixes functional_header functional_version functional_imports functional_annotations functional_axioms functional_axiom functional_iri functional_suffix functional_after functional_behind functional_one_notes functional_one_annotation functional_one_annotation_property functional_one_annotation_subject functional_one_annotation_value functional_one_iri functional_one_class_expression functional_one_class functional_one_data_range functional_one_datatype functional_one_object_property_expression functional_one_object_property functional_one_sub_object_property_expression functional_one_data_property_expression functional_one_individual functional_one_literal functional_one_number functional_one_facet functional_one_facet_pair functional_one_object_keys functional_one_data_keys functional_one_entity functional_many_annotation functional_many_class_expression functional_many_data_range functional_many_object_property_expression functional_many_data_property_expression functional_many_individual functional_many_literal functional_many_facet_pair functional_maybe_class_expression functional_maybe_data_range
rules_behind = refl

rule_of_prefixes : list_all (λ (row : Row). prefixes_pass row.symbols) (entry functional 1).rows ≡ true
unfolding functional functional_prefixes
rule_of_prefixes = refl

-- the alternative of the rule of documents is that of prefixes, the keyword Ontology, and more
pub record IsDocumentRow (symbols : List Symbol) : Type 0 where
  pub more : List Symbol
  pub are : symbols ≡ Rule 1 ∷ Need (class_number Class.ontology) ∷ more
  pub behind : behind_passes more ≡ true

document_row : (row : Row) → Among row (entry functional 0).rows → IsDocumentRow row.symbols
unfolding functional functional_document
document_row row here = record { more = _; are = refl; behind = refl }
document_row row (behind a) = elim a [ ]

-- ---- what the rules mean for declarations

abbrev PassBehind : {X : Type 0} → (X → ℕ) → List (Event X) → Type 0
PassBehind class_of es = EventsPass class_of (λ c. true) (λ a. not (declares a)) es

abbrev Sets : {X : Type 0} → (X → ℕ) → ℕ → List X → List (Event X) → Type 0
Sets class_of zero xs es = OntologyBehind class_of xs es
Sets class_of (suc zero) xs es = OnlyDeclare class_of es
Sets class_of (suc (suc r)) xs es = PassBehind class_of es

set_behind : {X : Type 0} (class_of : X → ℕ) (r : ℕ) (xs : List X) (es : List (Event X)) → is_behind r ≡ true → Sets class_of r xs es → PassBehind class_of es
set_behind class_of zero xs es h it = absurd (false≢true h)
set_behind class_of (suc zero) xs es h it = absurd (false≢true h)
set_behind class_of (suc (suc r)) xs es h it = it

set_before : {X : Type 0} (class_of : X → ℕ) (r : ℕ) (xs : List X) (es : List (Event X)) → is_prefixes r ≡ true → Sets class_of r xs es → OnlyDeclare class_of es
set_before class_of zero xs es h it = absurd (false≢true h)
set_before class_of (suc zero) xs es h it = it
set_before class_of (suc (suc r)) xs es h it = absurd (false≢true h)

pass_behind : {X : Type 0} (class_of : X → ℕ) (ss : List Symbol) (xs : List X) (es : List (Event X)) → behind_passes ss ≡ true → Means class_of (Sets class_of) ss xs es → PassBehind class_of es
pass_behind class_of ss xs es h it =
    events_pass class_of (λ c. true) (λ a. not (declares a)) is_behind (Sets class_of) (set_behind class_of) ss xs es h it

not_true : (b : Bool) → not b ≡ true → b ≡ false
not_true true h = absurd (false≢true h)
not_true false h = refl

nothing_declared : {X : Type 0} (class_of : X → ℕ) (es : List (Event X)) → PassBehind class_of es → DeclareNothing es
nothing_declared class_of [] h = tt
nothing_declared class_of (Take x ∷ es) h = nothing_declared class_of es h.1
nothing_declared class_of (Do a ∷ es) h = (not_true (declares a) h.0, nothing_declared class_of es h.1)

document_sets : {X : Type 0} (class_of : X → ℕ) (more : List Symbol) (xs : List X) (es : List (Event X)) → behind_passes more ≡ true → Means class_of (Sets class_of) (Rule 1 ∷ Need (class_number Class.ontology) ∷ more) xs es → OntologyBehind class_of xs es
document_sets class_of more xs es h it =
    let word = it.back in
    record {
      front_tokens = it.front_tokens;
      front_events = it.front_events;
      word = word.token;
      back_tokens = word.more_tokens;
      back_events = word.more_events;
      tokens_are = append_then it.front_tokens it.tokens_are word.tokens_are;
      events_are = append_then it.front_events it.events_are word.events_are;
      class = word.class;
      front = it.front;
      back = nothing_declared class_of word.more_events (pass_behind class_of more word.more_tokens word.more_events h word.more);
    }

rule_sets : {X : Type 0} (class_of : X → ℕ) (r : ℕ) (row : Row) → Among row (entry functional r).rows → (xs : List X) (es : List (Event X)) → Means class_of (Sets class_of) row.symbols xs es → Sets class_of r xs es
unfolding functional
rule_sets class_of zero row a xs es it =
    let is = document_row row a in
    document_sets class_of is.more xs es is.behind (subst (λ l. Means class_of (Sets class_of) l xs es) is.are it)
rule_sets class_of (suc zero) row a xs es it =
    events_pass class_of (λ c. not (is_ontology c)) is_of_declaration is_prefixes (Sets class_of) (set_before class_of) row.symbols xs es
    (row_passes prefixes_pass (entry functional 1).rows row rule_of_prefixes a) it
rule_sets class_of (suc (suc r)) row a xs es it =
    pass_behind class_of row.symbols xs es (rule_passes behind_passes (drop 2 functional) r row rules_behind a) it

-- In front of the keyword Ontology there are only declarations, and behind it none.
pub ontology_is_behind : {X : Type 0} (class_of : X → ℕ) (xs : List X) (es : List (Event X)) → DerivesOf class_of functional (Rule 0 ∷ []) xs es → OntologyBehind class_of xs es
ontology_is_behind {X = X} class_of xs es d =
    let sets : IsMeaning class_of functional (Sets class_of) = record { row = rule_sets class_of } in
    let it = means sets (yields d) in
    subst (λ (l : List X). OntologyBehind class_of l es) (sym (it.tokens_are ∙ ap (λ (l : List X). it.front_tokens ++ l) it.back.tokens_are ∙ append-nil it.front_tokens))
    (subst (OntologyBehind class_of it.front_tokens) (sym (it.events_are ∙ ap (λ (l : List (Event X)). it.front_events ++ l) it.back.events_are ∙ append-nil it.front_events)) it.front)

-- ---- from one event to the next

nothing_first : {X : Type 0} (class_of : X → ℕ) (es : List (Event X)) → DeclareNothing es → DeclareFirst class_of es
nothing_first class_of [] h = tt
nothing_first class_of (Take x ∷ es) h = (λ ontology. h, nothing_first class_of es h)
nothing_first class_of (Do a ∷ es) h = (λ other. h.1, nothing_first class_of es h.1)

only_first : {X : Type 0} (class_of : X → ℕ) (es fs : List (Event X)) → OnlyDeclare class_of es → DeclareFirst class_of fs → DeclareFirst class_of (es ++ fs)
only_first class_of [] fs h k = k
only_first class_of (Take x ∷ es) fs h k =
    (λ ontology. absurd (true≢false (sym ontology ∙ not_true (is_ontology (class_of x)) h.0)), only_first class_of es fs h.1 k)
only_first class_of (Do a ∷ es) fs h k = (λ other. absurd (true≢false (sym h.0 ∙ other)), only_first class_of es fs h.1 k)

pub derivations_declare_first : {X : Type 0} (class_of : X → ℕ) (xs : List X) (es : List (Event X)) → DerivesOf class_of functional (Rule 0 ∷ []) xs es → DeclareFirst class_of es
derivations_declare_first class_of xs es d =
    let it = ontology_is_behind class_of xs es d in
    let back = nothing_first class_of (Take it.word ∷ it.back_events) it.back in
    subst (DeclareFirst class_of) (sym it.events_are) (only_first class_of it.front_events (Take it.word ∷ it.back_events) it.front back)

pub first_behind : {X : Type 0} (class_of : X → ℕ) (es fs : List (Event X)) → DeclareFirst class_of (es ++ fs) → DeclareFirst class_of fs
first_behind class_of [] fs h = h
first_behind class_of (Take x ∷ es) fs h = first_behind class_of es fs h.1
first_behind class_of (Do a ∷ es) fs h = first_behind class_of es fs h.1

-- Behind an act that is of no declaration, nothing is declared; nor is it behind the keyword Ontology.
pub declarations_come_first : {X : Type 0} (class_of : X → ℕ) (xs : List X) (es fs : List (Event X)) (a : ℕ) → DerivesOf class_of functional (Rule 0 ∷ []) xs (es ++ Do a ∷ fs) → is_of_declaration a ≡ false → DeclareNothing fs
declarations_come_first class_of xs es fs a d other =
    (first_behind class_of es (Do a ∷ fs) (derivations_declare_first class_of xs (es ++ Do a ∷ fs) d)).0 other

pub none_behind_ontology : {X : Type 0} (class_of : X → ℕ) (xs : List X) (es fs : List (Event X)) (x : X) → DerivesOf class_of functional (Rule 0 ∷ []) xs (es ++ Take x ∷ fs) → is_ontology (class_of x) ≡ true → DeclareNothing fs
none_behind_ontology class_of xs es fs x d ontology =
    (first_behind class_of es (Take x ∷ fs) (derivations_declare_first class_of xs (es ++ Take x ∷ fs) d)).0 ontology

pub nothing_behind : {X : Type 0} (es fs : List (Event X)) → DeclareNothing (es ++ fs) → DeclareNothing fs
nothing_behind [] fs h = h
nothing_behind (Take x ∷ es) fs h = nothing_behind es fs h
nothing_behind (Do a ∷ es) fs h = nothing_behind es fs h.1
