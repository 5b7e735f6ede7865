-- Where a rule for trees may come, each of its alternatives may.
use Rattle.std.proofs.Common.{◌≡◌, ℕ, zero, suc, ◌≤◌, Bool, true, false, ◌&&◌, min, List, [], ◌∷◌, ◌++◌, length, map, filter, Option, refl, sym, ap, ◌∙◌, subst, subst₂, append_assoc, append-nil, arith, true≢false}
use Rattle.std.specs.List.{list_all}
use Rattle.std.specs.Prelude.{if◌then◌else◌}
use Rattle.std.specs.Cmp.{first_so, second_so}
use Rattle.std.specs.Cmp.Derive.{both_true}
use Rattle.std.proofs.lemmas.Bool.{le-leb}
use Rattle.std.proofs.lemmas.List.{length-append}
use Rattle.std.proofs.lemmas.List.Folds.{list_all-append}
use Rattle.grammar.specs.Pages.{IsIn, numbered}
use Rattle.grammar.specs.Pages.IsIn.{first, later}
use Rattle.grammar.specs.Pages.Named.{action, part, token as word}
use Rattle.owl_tree.specs.declared.row.AtomSort.{AtomSort}
use Rattle.owl_tree.specs.declared.row.AtomSort.TheVariants as atom
use Rattle.owl_tree.specs.declared.row.Rest.{Rest}
use Rattle.owl_tree.specs.declared.row.Rest.TheVariants.{Nothing, Optional, AtLeast, SomeThen, Set}
use Rattle.owl_tree.specs.declared.row.Sort.{Sort}
use Rattle.owl_tree.specs.declared.row.Sort.TheVariants as sort
use Rattle.owl_tree.specs.declared.tag.Tag.{Tag}
use Rattle.owl_tree.specs.declared.tag.Tag.TheVariants as tag
use Rattle.owl_tree.specs.Rows.{Row, Leaf, Node, admits, is_bare, is_group, is_tag, row_of}
use Rattle.owl_tree.specs.Tags.{all_tags}
use Rattle.fss_grammar.proofs.Allowing.{FollowProperty, MayCome, NamesAllowed, RuleAllowed, inside, with_tags}
use Rattle.fss_grammar.specs.Classes.Class.{closing, digits, keyword, label, language, opening, text}
use Rattle.fss_grammar.proofs.Due.{FitsTags, InsideThen, IriThen, IsDue, IsDueToBegin, StringThen}
use Rattle.fss_grammar.specs.Meaning.{suits}
use Rattle.fss_grammar.specs.Outlines.{FrameOutline, KeptOutline, Naming, Outline, opened_by, outline_behind, put_tag, with_tag}
use Rattle.fss_grammar.specs.Outlines.{KeptOutline as kept}
use Rattle.fss_grammar.specs.Page.{Names, Rule, alternatives, atom_symbols, closing_symbols, front_symbols, is_entity, is_leaf, is_range_construct, leaf_symbols, node_symbols, opening_symbols, page, rest_symbols, times, tree_symbols}
use Rattle.fss_grammar.specs.Page.Rule.{after, behind, iri_part, many, maybe, one, suffix}
use Rattle.fss_grammar.proofs.PageRows.{IsPlaced, from_filter, from_map, is_within, many_is_placed, maybe_is_placed, one_is_placed}
use Rattle.fss_grammar.proofs.RowTests.{data_property_is, data_range_is, each_row_passes, is_data_property, is_data_range, rest_test, row_test}
use Rattle.fss_grammar.proofs.SoundNodeLaws.{exact_more}
use Rattle.fss_grammar.proofs.SoundRuleLaws.{construct_admitted, held_admitted}
use Rattle.fss_grammar.specs.declared.acts.Act.{Act}
use Rattle.fss_grammar.specs.declared.acts.Act.TheVariants.{Begin, HeldDatatype, HeldProperty, Hold, Plain, Shut, Tagged, Typed}

-- ---- a part, and an act

pub part_allowed : (r : Rule) → IsPlaced r → (names : Names) (o : Outline) (Then : Outline → Type 0) → RuleAllowed r o (λ p. NamesAllowed names p Then) → NamesAllowed (part r ∷ names) o Then
part_allowed r placed names o Then h =
    λ q stands. let same : r ≡ q = cc in subst (λ q. RuleAllowed q o (λ p. NamesAllowed names p Then)) same h

pub act_allowed : (a : Act) (names : Names) (o : Outline) (Then : Outline → Type 0) → ((next : Option ℕ) → MayCome (map (numbered page) names) next → IsDue a next o) → NamesAllowed names (outline_behind a o) Then → NamesAllowed (action a ∷ names) o Then
act_allowed a names o Then due h = record { act = a; number_is = refl; due = due; later = h }

-- a tag begins by its row
begin_allowed : (t : Tag) (row : Row) → row_of t ≡ row → (names : Names) (o : Outline) (Then : Outline → Type 0) → ((next : Option ℕ) → MayCome (map (numbered page) names) next → IsDueToBegin row next o) → NamesAllowed names (opened_by t row o) Then → NamesAllowed (action (Begin t) ∷ names) o Then
begin_allowed t row e names o Then due h =
    act_allowed (Begin t) names o Then (λ next comes. subst (λ r. IsDueToBegin r next o) (sym e) (due next comes))
    (subst (λ r. NamesAllowed names (opened_by t r o) Then) (sym e) h)

-- ---- leaves

atom_allowed : (t : Tag) (c : AtomSort) → row_of t ≡ Leaf c → (names : Names) (f : FrameOutline) (frames : List FrameOutline) (naming : Naming) (Then : Outline → Type 0) → NamesAllowed names (inside (with_tag t f) frames naming) Then → NamesAllowed (action (Begin t) ∷ atom_symbols c names) (inside f frames naming) Then
atom_allowed t atom.Iri e names f frames naming Then h =
    begin_allowed t (Leaf atom.Iri) e (part iri_part ∷ names) (inside f frames naming) Then (λ next comes. (tt, comes refl)) (part_allowed iri_part refl names (inside (with_tag t f) frames naming) Then h)
atom_allowed t atom.Label e names f frames naming Then h =
    begin_allowed t (Leaf atom.Label) e (word label ∷ names) (inside f frames naming) Then (λ next comes. (tt, record { class = label; comes = comes; good = refl })) h
atom_allowed t atom.Literal e names f frames naming Then h =
    begin_allowed t (Leaf atom.Literal) e (word text ∷ part suffix ∷ names) (inside f frames naming) Then (λ next comes. (tt, record { class = text; comes = comes; good = refl }))
    (part_allowed suffix refl names (record { kept = kept.string t; frames = f ∷ frames; naming = naming }) Then (e, h))
atom_allowed t atom.Number e names f frames naming Then h =
    begin_allowed t (Leaf atom.Number) e (word digits ∷ names) (inside f frames naming) Then (λ next comes. (tt, record { class = digits; comes = comes; good = refl })) h

leaf_allowed : (declared : Bool) (t : Tag) (c : AtomSort) → row_of t ≡ Leaf c → (f : FrameOutline) (frames : List FrameOutline) (naming : Naming) (Then : Outline → Type 0) → Then (inside (with_tag t f) frames naming) → NamesAllowed (leaf_symbols declared t c []) (inside f frames naming) Then
leaf_allowed false t c e f frames naming Then h = atom_allowed t c e [] f frames naming Then h
leaf_allowed true t c e f frames naming Then h = atom_allowed t c e (word closing ∷ []) f frames naming Then h

-- ---- kids

-- the symbols may come where the construct has these kids
abbrev AllowedBehind : Names → Tag → List FrameOutline → Naming → (Outline → Type 0) → List Tag → Type 0
AllowedBehind names t frames naming Then kids = NamesAllowed names (inside (record { tag = t; kids = kids }) frames naming) Then

-- one more kid, and then others
then_others : (P : List Tag → Type 0) (kids front back : List Tag) → P (kids ++ (front ++ back)) → P ((kids ++ front) ++ back)
then_others P kids front back h = subst P (sym (append_assoc kids front back)) h

no_others : (P : List Tag → Type 0) (kids : List Tag) → P (kids ++ []) → P kids
no_others P kids h = subst P (append-nil kids) h

times_allowed : (least : ℕ) (s : Sort) (names : Names) (t : Tag) (frames : List FrameOutline) (naming : Naming) (Then : Outline → Type 0) (kids : List Tag) → ((ts : List Tag) → length ts ≡ least → list_all (admits s) ts ≡ true → AllowedBehind names t frames naming Then (kids ++ ts)) → AllowedBehind (times least s names) t frames naming Then kids
times_allowed zero s names t frames naming Then kids h = no_others (AllowedBehind names t frames naming Then) kids (h [] refl refl)
times_allowed (suc least) s names t frames naming Then kids h =
    part_allowed (one s) (one_is_placed s) (times least s names) (inside (record { tag = t; kids = kids }) frames naming) Then
    (λ u admitted.
    times_allowed least s names t frames naming Then (kids ++ u ∷ [])
    (λ ts count all. then_others (AllowedBehind names t frames naming Then) kids (u ∷ []) ts (h (u ∷ ts) (ap suc count) (both_true admitted all))))

all_of_both : (s : Sort) (ts us : List Tag) → list_all (admits s) ts ≡ true → list_all (admits s) us ≡ true → list_all (admits s) (ts ++ us) ≡ true
all_of_both s ts us h k = list_all-append (admits s) ts us ∙ both_true h k

-- so many of a sort at least
some_allowed : (least : ℕ) (s : Sort) → is_within (many s) ≡ true → (names : Names) (t : Tag) (frames : List FrameOutline) (naming : Naming) (Then : Outline → Type 0) (kids : List Tag) → ((ts : List Tag) → least ≤ length ts → list_all (admits s) ts ≡ true → AllowedBehind names t frames naming Then (kids ++ ts)) → AllowedBehind (times least s (part (many s) ∷ names)) t frames naming Then kids
some_allowed least s placed names t frames naming Then kids h =
    times_allowed least s (part (many s) ∷ names) t frames naming Then kids
    (λ ts count all.
    part_allowed (many s) (many_is_placed s placed) names (inside (record { tag = t; kids = kids ++ ts }) frames naming) Then
    (λ us others.
    then_others (AllowedBehind names t frames naming Then) kids ts us
    (h (ts ++ us) (let both = length-append ts us in omega arith) (all_of_both s ts us all others))))

-- the members of a set, of which there may be more than its row asks for, but for InverseObjectProperties
set_allowed : (least : ℕ) (s : Sort) → is_within (many s) ≡ true → (exact : Bool) (names : Names) (t : Tag) (frames : List FrameOutline) (naming : Naming) (Then : Outline → Type 0) (kids : List Tag) → ((ts : List Tag) → least ≤ length ts → (exact ≡ true → length ts ≡ least) → list_all (admits s) ts ≡ true → AllowedBehind names t frames naming Then (kids ++ ts)) → AllowedBehind (times least s (if exact then names else part (many s) ∷ names)) t frames naming Then kids
set_allowed least s placed true names t frames naming Then kids h =
    times_allowed least s names t frames naming Then kids (λ ts count all. h ts (omega arith) (λ e. count) all)
set_allowed least s placed false names t frames naming Then kids h =
    some_allowed least s placed names t frames naming Then kids (λ ts count all. h ts count (λ e. absurd (true≢false (sym e))) all)

many_fit : (t : Tag) (s : Sort) (least : ℕ) (ts : List Tag) → least ≤ length ts → list_all (admits s) ts ≡ true → FitsTags t (Node [] (AtLeast s least)) ts
many_fit t s least ts count all = record { fit = both_true (le-leb least (length ts) count) all; exact = λ e. tt }

set_fit : (t : Tag) (s : Sort) (least : ℕ) (ts : List Tag) → least ≤ length ts → (is_tag tag.InverseObjectProperties t ≡ true → length ts ≡ least) → list_all (admits s) ts ≡ true → FitsTags t (Node [] (Set s least)) ts
set_fit t s least ts count exact all = record {
  fit = both_true (le-leb (min least 1) (length ts) (omega arith)) all;
  exact = λ e. (let same = exact e in omega arith);
}

some_then_allowed : (s last : Sort) → s ≡ sort.DataPropertyExpression → last ≡ sort.DataRange → (names : Names) (t : Tag) (frames : List FrameOutline) (naming : Naming) (Then : Outline → Type 0) (kids : List Tag) → ((ts : List Tag) → FitsTags t (Node [] (SomeThen s last)) ts → AllowedBehind names t frames naming Then (kids ++ ts)) → AllowedBehind (part (one s) ∷ part after ∷ names) t frames naming Then kids
some_then_allowed s last a b names t frames naming Then kids =
    subst₂ (λ s last. ((ts : List Tag) → FitsTags t (Node [] (SomeThen s last)) ts → AllowedBehind names t frames naming Then (kids ++ ts)) → AllowedBehind (part (one s) ∷ part after ∷ names) t frames naming Then kids) (sym a) (sym b)
    (λ h.
    part_allowed (one sort.DataPropertyExpression) refl (part after ∷ names) (inside (record { tag = t; kids = kids }) frames naming) Then
    (λ u admitted.
    part_allowed after refl names (inside (record { tag = t; kids = kids ++ u ∷ [] }) frames naming) Then
    (λ ts follow.
    then_others (AllowedBehind names t frames naming Then) kids (u ∷ []) ts
    (h (u ∷ ts) (record { fit = follow u admitted; exact = λ e. tt })))))

rest_allowed : (t : Tag) (rest : Rest) → rest_test t rest ≡ true → (names : Names) (frames : List FrameOutline) (naming : Naming) (Then : Outline → Type 0) (kids : List Tag) → ((ts : List Tag) → FitsTags t (Node [] rest) ts → AllowedBehind names t frames naming Then (kids ++ ts)) → AllowedBehind (rest_symbols t rest names) t frames naming Then kids
rest_allowed t Nothing test names frames naming Then kids h =
    no_others (AllowedBehind names t frames naming Then) kids (h [] (record { fit = refl; exact = λ e. tt }))
rest_allowed t (Optional s) test names frames naming Then kids h =
    part_allowed (maybe s) (maybe_is_placed s (first_so (is_within (maybe s)) (suits s t) test)) names (inside (record { tag = t; kids = kids }) frames naming) Then
    (λ ts fit. h ts (record { fit = fit; exact = λ e. tt }))
rest_allowed t (AtLeast s least) test names frames naming Then kids h =
    some_allowed least s (first_so (is_within (many s)) (suits s t) test) names t frames naming Then kids
    (λ ts count all. h ts (many_fit t s least ts count all))
rest_allowed t (Set s least) test names frames naming Then kids h =
    set_allowed least s (first_so (is_within (many s)) (suits s t) test) (is_tag tag.InverseObjectProperties t) names t frames naming Then kids
    (λ ts count exact all. h ts (set_fit t s least ts count exact all))
rest_allowed t (SomeThen s last) test names frames naming Then kids h =
    let property = first_so (is_data_property s) (is_data_range last && (suits s t && suits last t)) test in
    let others = second_so (is_data_property s) (is_data_range last && (suits s t && suits last t)) test in
    let range = first_so (is_data_range last) (suits s t && suits last t) others in
    some_then_allowed s last (data_property_is s property) (data_range_is last range) names t frames naming Then kids h

front_fit : (t : Tag) (s : Sort) (front : List Sort) (rest : Rest) (u : Tag) (ts : List Tag) → admits s u ≡ true → FitsTags t (Node front rest) ts → FitsTags t (Node (s ∷ front) rest) (u ∷ ts)
front_fit t s front rest u ts admitted h = record {
  fit = both_true admitted h.fit;
  exact = λ e. exact_more s front rest (length ts) (h.exact e);
}

kids_allowed : (t : Tag) (front : List Sort) (rest : Rest) → rest_test t rest ≡ true → (names : Names) (frames : List FrameOutline) (naming : Naming) (Then : Outline → Type 0) (kids : List Tag) → ((ts : List Tag) → FitsTags t (Node front rest) ts → AllowedBehind names t frames naming Then (kids ++ ts)) → AllowedBehind (front_symbols t front rest names) t frames naming Then kids
kids_allowed t [] rest test names frames naming Then kids h = rest_allowed t rest test names frames naming Then kids h
kids_allowed t (s ∷ front) rest test names frames naming Then kids h =
    part_allowed (one s) (one_is_placed s) (front_symbols t front rest names) (inside (record { tag = t; kids = kids }) frames naming) Then
    (λ u admitted.
    kids_allowed t front rest test names frames naming Then (kids ++ u ∷ [])
    (λ ts fit. then_others (AllowedBehind names t frames naming Then) kids (u ∷ []) ts (h (u ∷ ts) (front_fit t s front rest u ts admitted fit))))

-- ---- constructs

opening_allowed : (t : Tag) (names : Names) (o : Outline) (Then : Outline → Type 0) → NamesAllowed names o Then → NamesAllowed (opening_symbols t names) o Then
opening_allowed t names o Then h = by (is_bare t) (is_group t)
  where
    by : (bare group : Bool) → NamesAllowed (if bare then names else (if group then word opening ∷ names else word (keyword t) ∷ word opening ∷ names)) o Then
    by true group = h
    by false true = h
    by false false = h

pub closing_allowed : (t : Tag) (names : Names) (o : Outline) (Then : Outline → Type 0) → NamesAllowed names o Then → NamesAllowed (closing_symbols t names) o Then
closing_allowed t names o Then h = by (is_bare t)
  where
    by : (bare : Bool) → NamesAllowed (if bare then names else word closing ∷ names) o Then
    by true = h
    by false = h

rest_passes : (t : Tag) (front : List Sort) (rest : Rest) → row_of t ≡ Node front rest → rest_test t rest ≡ true
rest_passes t front rest e =
    second_so (list_all (λ s. suits s t) front) (rest_test t rest) (subst (λ row. row_test t row ≡ true) e (each_row_passes t))

-- a construct within these, or within none
pub node_allowed : (t : Tag) (front : List Sort) (rest : Rest) → row_of t ≡ Node front rest → (names : Names) (frames : List FrameOutline) (naming : Naming) (Then : Outline → Type 0) → NamesAllowed names (put_tag t (record { kept = kept.nothing; frames = frames; naming = naming })) Then → NamesAllowed (node_symbols t front rest names) (record { kept = kept.nothing; frames = frames; naming = naming }) Then
node_allowed t front rest e names frames naming Then h =
    let start : FrameOutline = record { tag = t; kids = [] } in
    begin_allowed t (Node front rest) e (opening_symbols t (front_symbols t front rest (action Shut ∷ names))) (record { kept = kept.nothing; frames = frames; naming = naming }) Then (λ next comes. refl)
    (opening_allowed t (front_symbols t front rest (action Shut ∷ names)) (inside start frames naming) Then
    (kids_allowed t front rest (rest_passes t front rest e) (action Shut ∷ names) frames naming Then []
    (λ ts fit.
    act_allowed Shut names (inside (record { tag = t; kids = ts }) frames naming) Then (λ next comes. subst (λ row. FitsTags t row ts) (sym e) fit) h)))

tree_by : (declared : Bool) (t : Tag) (row : Row) → row_of t ≡ row → (f : FrameOutline) (frames : List FrameOutline) (naming : Naming) (Then : Outline → Type 0) → Then (inside (with_tag t f) frames naming) → NamesAllowed (tree_symbols declared t row) (inside f frames naming) Then
tree_by declared t (Leaf c) e f frames naming Then h = leaf_allowed declared t c e f frames naming Then h
tree_by declared t (Node front rest) e f frames naming Then h =
    node_allowed t front rest e (closing_symbols t []) (f ∷ frames) naming Then (closing_allowed t [] (inside (with_tag t f) frames naming) Then h)

-- the symbols of a tag
tree_allowed : (declared : Bool) (t : Tag) (f : FrameOutline) (frames : List FrameOutline) (naming : Naming) (Then : Outline → Type 0) → Then (inside (with_tag t f) frames naming) → NamesAllowed (tree_symbols declared t (row_of t)) (inside f frames naming) Then
tree_allowed declared t f frames naming Then h = tree_by declared t (row_of t) refl f frames naming Then h

-- ---- rules for trees

-- what is to be shown of an outline is shown of one within a construct
pub inside_alone : (P : Outline → Type 0) (Q : FrameOutline → List FrameOutline → Type 0) (o : Outline) → InsideThen o.kept o.frames Q → ((f : FrameOutline) (frames : List FrameOutline) → Q f frames → P (inside f frames o.naming)) → P o
inside_alone P Q o h go = by o.kept o.frames h
  where
    by : (k : KeptOutline) (frames : List FrameOutline) → InsideThen k frames Q → P (record { kept = k; frames = frames; naming = o.naming })
    by kept.nothing (f ∷ frames) i = go f frames i
    by _ _ i = elim i [ ]

pub one_allowed : (s : Sort) (names : Names) → IsIn names (alternatives (one s)) → (o : Outline) (Then : Outline → Type 0) → RuleAllowed (one s) o Then → NamesAllowed names o Then
one_allowed s names i o Then h =
    let t = from_map (λ t. tree_symbols (is_entity s) t (row_of t)) (filter (admits s) all_tags) i in
    let admitted = from_filter (admits s) all_tags t.is_in in
    inside_alone (λ o. NamesAllowed names o Then) _ o h
    (λ f frames each.
    subst (λ l. NamesAllowed l (inside f frames o.naming) Then) (sym t.is)
    (tree_allowed (is_entity s) t.item f frames o.naming Then (each t.item admitted)))

pub many_allowed : (s : Sort) → IsPlaced (many s) → (names : Names) → IsIn names (alternatives (many s)) → (o : Outline) (Then : Outline → Type 0) → RuleAllowed (many s) o Then → NamesAllowed names o Then
many_allowed s placed names first o Then h =
    inside_alone Then _ o h (λ f frames each. no_others (λ ks. Then (inside (record f { kids = ks }) frames o.naming)) f.kids (each [] refl))
many_allowed s placed names (later first) o Then h =
    inside_alone (λ o. NamesAllowed (part (one s) ∷ part (many s) ∷ []) o Then) _ o h
    (λ f frames each.
    part_allowed (one s) (one_is_placed s) (part (many s) ∷ []) (inside f frames o.naming) Then
    (λ u admitted.
    part_allowed (many s) placed [] (inside (with_tag u f) frames o.naming) Then
    (λ ts all. then_others (λ ks. Then (inside (record f { kids = ks }) frames o.naming)) f.kids (u ∷ []) ts (each (u ∷ ts) (both_true admitted all)))))
many_allowed s placed names (later (later i)) o Then h = elim i [ ]

pub maybe_allowed : (s : Sort) (names : Names) → IsIn names (alternatives (maybe s)) → (o : Outline) (Then : Outline → Type 0) → RuleAllowed (maybe s) o Then → NamesAllowed names o Then
maybe_allowed s names first o Then h =
    inside_alone Then _ o h (λ f frames each. no_others (λ ks. Then (inside (record f { kids = ks }) frames o.naming)) f.kids (each [] refl))
maybe_allowed s names (later first) o Then h =
    inside_alone (λ o. NamesAllowed (part (one s) ∷ []) o Then) _ o h
    (λ f frames each. part_allowed (one s) (one_is_placed s) [] (inside f frames o.naming) Then (λ u admitted. each (u ∷ []) admitted))
maybe_allowed s names (later (later i)) o Then h = elim i [ ]

-- ---- IRIs and literals

pub iri_allowed : (names : Names) → IsIn names (alternatives iri_part) → (o : Outline) (Then : Outline → Type 0) → RuleAllowed iri_part o Then → NamesAllowed names o Then
iri_allowed names first o Then h = h
iri_allowed names (later first) o Then h = h
iri_allowed names (later (later first)) o Then h = h
iri_allowed names (later (later (later i))) o Then h = elim i [ ]

suffix_by : (names : Names) → IsIn names (alternatives suffix) → (t : Tag) → row_of t ≡ Leaf atom.Literal → (f : FrameOutline) (frames : List FrameOutline) (naming : Naming) (Then : Outline → Type 0) → Then (inside (with_tag t f) frames naming) → NamesAllowed names (record { kept = kept.string t; frames = f ∷ frames; naming = naming }) Then
suffix_by names first t e f frames naming Then h = act_allowed Plain [] (record { kept = kept.string t; frames = f ∷ frames; naming = naming }) Then (λ next comes. (e, tt)) h
suffix_by names (later first) t e f frames naming Then h = act_allowed Tagged (word language ∷ []) (record { kept = kept.string t; frames = f ∷ frames; naming = naming }) Then (λ next comes. ((e, tt), comes)) h
suffix_by names (later (later first)) t e f frames naming Then h =
    act_allowed Typed (part iri_part ∷ []) (record { kept = kept.string t; frames = f ∷ frames; naming = naming }) Then (λ next comes. ((e, tt), comes refl))
    (part_allowed iri_part refl [] (inside (with_tag t f) frames naming) Then h)
suffix_by names (later (later (later i))) t e f frames naming Then h = elim i [ ]

pub suffix_allowed : (names : Names) → IsIn names (alternatives suffix) → (o : Outline) (Then : Outline → Type 0) → RuleAllowed suffix o Then → NamesAllowed names o Then
suffix_allowed names i o Then h = by o.kept o.frames h
  where
    by : (k : KeptOutline) (frames : List FrameOutline) → StringThen k frames (λ f frames t. Then (inside (with_tag t f) frames o.naming)) → NamesAllowed names (record { kept = k; frames = frames; naming = o.naming }) Then
    by (kept.string t) (f ∷ frames) j = suffix_by names i t j.0 f frames o.naming Then j.1
    by _ _ j = elim j [ ]

-- ---- names that are data properties or the data range

range_follows : (u : Tag) → admits sort.DataRange u ≡ true → FollowProperty (u ∷ [])
range_follows u h = λ t admitted. both_true admitted h

property_follows : (u : Tag) (ts : List Tag) → admits sort.DataPropertyExpression u ≡ true → FollowProperty ts → FollowProperty (u ∷ ts)
property_follows u [] h follow = absurd (true≢false (sym (follow u h)))
property_follows u (v ∷ ts) h follow = λ t admitted. both_true admitted (follow u h)

pub after_allowed : (names : Names) → IsIn names (alternatives after) → (o : Outline) (Then : Outline → Type 0) → RuleAllowed after o Then → NamesAllowed names o Then
after_allowed names first o Then h =
    inside_alone (λ o. NamesAllowed names o Then) _ o h
    (λ f frames each.
    act_allowed Hold (part iri_part ∷ part behind ∷ []) (inside f frames o.naming) Then (λ next comes. (tt, comes refl))
    (part_allowed iri_part refl (part behind ∷ []) (record { kept = kept.iri; frames = f ∷ frames; naming = o.naming }) Then
    (part_allowed behind refl [] (record { kept = kept.iri; frames = f ∷ frames; naming = o.naming }) Then each)))
after_allowed names (later i) o Then h =
    let t = from_map (λ t. tree_symbols false t (row_of t)) (filter is_range_construct all_tags) i in
    let admitted = construct_admitted (is_leaf (row_of t.item)) (admits sort.DataRange t.item) (from_filter is_range_construct all_tags t.is_in) in
    inside_alone (λ o. NamesAllowed names o Then) _ o h
    (λ f frames each.
    subst (λ l. NamesAllowed l (inside f frames o.naming) Then) (sym t.is)
    (tree_allowed false t.item f frames o.naming Then (each (t.item ∷ []) (range_follows t.item admitted))))

behind_by : (names : Names) → IsIn names (alternatives behind) → (f : FrameOutline) (frames : List FrameOutline) (naming : Naming) (Then : Outline → Type 0) → ((ts : List Tag) → FollowProperty ts → Then (inside (with_tags ts f) frames naming)) → NamesAllowed names (record { kept = kept.iri; frames = f ∷ frames; naming = naming }) Then
behind_by names first f frames naming Then h =
    act_allowed HeldDatatype [] (record { kept = kept.iri; frames = f ∷ frames; naming = naming }) Then (λ next comes. tt) (h (tag.Datatype ∷ []) (range_follows tag.Datatype held_admitted.0))
behind_by names (later first) f frames naming Then h =
    act_allowed HeldProperty (part after ∷ []) (record { kept = kept.iri; frames = f ∷ frames; naming = naming }) Then (λ next comes. tt)
    (part_allowed after refl [] (inside (with_tag tag.DataProperty f) frames naming) Then
    (λ ts follow.
    then_others (λ ks. Then (inside (record f { kids = ks }) frames naming)) f.kids (tag.DataProperty ∷ []) ts
    (h (tag.DataProperty ∷ ts) (property_follows tag.DataProperty ts held_admitted.1 follow))))
behind_by names (later (later i)) f frames naming Then h = elim i [ ]

pub behind_allowed : (names : Names) → IsIn names (alternatives behind) → (o : Outline) (Then : Outline → Type 0) → RuleAllowed behind o Then → NamesAllowed names o Then
behind_allowed names i o Then h = by o.kept o.frames h
  where
    by : (k : KeptOutline) (frames : List FrameOutline) → IriThen k frames (λ f frames. (ts : List Tag) → FollowProperty ts → Then (inside (with_tags ts f) frames o.naming)) → NamesAllowed names (record { kept = k; frames = frames; naming = o.naming }) Then
    by kept.iri (f ∷ frames) j = behind_by names i f frames o.naming Then j
    by _ _ j = elim j [ ]
