-- What derives from the symbols of a construct, and can be done, is written for a construct.
use Rattle.std.proofs.Common.{◌≡◌, ℕ, zero, suc, ◌+◌, Bool, true, false, ◌&&◌, min, List, [], ◌∷◌, ◌++◌, length, map, refl, sym, ap, ◌∙◌, subst, subst₂, append-nil, arith, true≢false}
use Rattle.std.specs.List.{list_all}
use Rattle.std.specs.Prelude.{if◌then◌else◌}
use Rattle.std.specs.Cmp.{first_so, second_so}
use Rattle.std.specs.Cmp.Derive.{both_true}
use Rattle.std.proofs.lemmas.Bool.{le-leb}
use Rattle.grammar.specs.Pages.Named.{part}
use Rattle.owl_atom.specs.declared.prefixes.Prefix.{Prefix}
use Rattle.owl_tokens.specs.declared.token.Token.{Token}
use Rattle.owl_tree.specs.declared.row.Rest.{Rest}
use Rattle.owl_tree.specs.declared.row.Rest.TheVariants.{Nothing, Optional, AtLeast, SomeThen, Set}
use Rattle.owl_tree.specs.declared.row.Sort.{Sort}
use Rattle.owl_tree.specs.declared.row.Sort.TheVariants as sort
use Rattle.owl_tree.specs.declared.tag.Tag.{Tag}
use Rattle.owl_tree.specs.declared.tag.Tag.TheVariants as tag
use Rattle.owl_tree.specs.Rows.{Row, Leaf, Node, admits, ends_in, fits, is_tag}
use Rattle.owl_tree.specs.Trees.{Tree, tag_of}
use Rattle.fss_terms.specs.Spelling.{MeetsMinimum}
use Rattle.fss_grammar.specs.Meaning.{Events, FitsAfter, FitsMany, FitsMaybe, FitsOne, NamesMean, Parses, Suits, suits}
use Rattle.fss_grammar.specs.Page.{Names, front_symbols, more_members, rest_symbols, times}
use Rattle.fss_grammar.specs.Page.Rule.{after, many, maybe, one}
use Rattle.fss_grammar.proofs.PageRows.{is_within, many_is_placed, maybe_is_placed, one_is_placed}
use Rattle.fss_grammar.proofs.RowTests.{data_property_is, data_range_is, is_data_property, is_data_range, rest_test}
use Rattle.fss_grammar.proofs.SoundLaws.{Joined, KidsParse, kids_none, moved, parts, refit}

-- ---- so many of a sort

-- trees of a sort, of which there are such a number
pub record Counted (s : Sort) (Good : ℕ → Type 0) (ts : List Tree) : Type 0 where
  pub all : FitsMany s ts
  pub count : Good (length ts)

-- so many, and then such a number
pub record IsMore (least : ℕ) (Good : ℕ → Type 0) (n : ℕ) : Type 0 where
  pub more : ℕ
  pub count : n ≡ least + more
  pub good : Good more

-- one of a sort stands in front
pub record OneThen (s : Sort) (ts back : List Tree) : Type 0 where
  pub one : Tree
  pub are : ts ≡ one ∷ back
  pub admitted : admits s (tag_of one) ≡ true

pub one_then : (s : Sort) (front back ts : List Tree) → ts ≡ front ++ back → FitsOne s front → OneThen s ts back
one_then s [] back ts e h = elim h [ ]
one_then s (t ∷ []) back ts e h = record { one = t; are = e; admitted = h }
one_then s (t ∷ u ∷ front) back ts e h = elim h [ ]

one_more : (s : Sort) (least : ℕ) (Good : ℕ → Type 0) (ts : List Tree) → Joined (FitsOne s) (Counted s (IsMore least Good)) ts → Counted s (IsMore (suc least) Good) ts
one_more s least Good ts j =
    let it = one_then s j.front j.back ts j.are j.first in
    let rest = j.second in
    subst (Counted s (IsMore (suc least) Good)) (sym it.are) record {
      all = both_true it.admitted rest.all;
      count = record { more = rest.count.more; count = (let c = rest.count.count in omega arith); good = rest.count.good };
    }

times_means : (p : List Prefix) (t : Tag) (s : Sort) (least : ℕ) (tail names : Names) (Good : ℕ → Type 0) → Suits s t → ((xs : List Token) (es : Events) → NamesMean p tail xs es → KidsParse p t (Counted s Good) (NamesMean p names) xs es) → (xs : List Token) (es : Events) → NamesMean p (times least s tail) xs es → KidsParse p t (Counted s (IsMore least Good)) (NamesMean p names) xs es
times_means p t s zero tail names Good suit ends xs es it =
    refit es (λ ts c. record { all = c.all; count = record { more = length ts; count = omega arith; good = c.count } }) (ends xs es it)
times_means p t s (suc least) tail names Good suit ends xs es it =
    moved (KidsParse p t (Counted s (IsMore (suc least) Good)) (NamesMean p names)) it.tokens_are it.events_are
    (refit (it.front_events ++ it.back_events) (one_more s least Good)
    (parts it.front_events it.back_events suit (it.front (one s) (one_is_placed s)) (times_means p t s least tail names Good suit ends it.back_tokens it.back_events it.back)))

-- and any number more
abbrev IsNone : List Tree → Type 0
IsNone ts = ts ≡ []

only_front : {Fit : List Tree → Type 0} (ts : List Tree) → Joined Fit IsNone ts → Fit ts
only_front {Fit = Fit} ts j = subst Fit (sym (j.are ∙ ap (λ l. j.front ++ l) j.second ∙ append-nil j.front)) j.first

last_part : (p : List Prefix) (t : Tag) (Fit : List Tree → Type 0) (In : Tag → Type 0) (n : ℕ) (names : Names) → In t → (xs : List Token) (es : Events) → Parses p Fit In xs es → (ys : List Token) (gs : Events) → NamesMean p names ys gs → KidsParse p t Fit (NamesMean p names) (xs ++ ys) (es ++ gs)
last_part p t Fit In n names suit xs es it ys gs later =
    refit (es ++ gs) only_front (parts es gs suit it (kids_none p t IsNone (NamesMean p names) refl later))

many_means : (p : List Prefix) (t : Tag) (s : Sort) (names : Names) → is_within (many s) ≡ true → Suits s t → (xs : List Token) (es : Events) → NamesMean p (part (many s) ∷ names) xs es → KidsParse p t (Counted s (λ n. Unit {0})) (NamesMean p names) xs es
many_means p t s names placed suit xs es it =
    moved (KidsParse p t (Counted s (λ n. Unit {0})) (NamesMean p names)) it.tokens_are it.events_are
    (refit (it.front_events ++ it.back_events) (λ ts h. record { all = h; count = tt })
    (last_part p t (FitsMany s) (Suits s) 0 names suit it.front_tokens it.front_events (it.front (many s) (many_is_placed s placed)) it.back_tokens it.back_events it.back))

-- no more, where the two members of InverseObjectProperties were read
abbrev NoMore : Bool → ℕ → Type 0
NoMore b n = b ≡ true → n ≡ 0

more_by : (p : List Prefix) (t : Tag) (s : Sort) (names : Names) (exact : Bool) → is_within (many s) ≡ true → Suits s t → (xs : List Token) (es : Events) → NamesMean p (if exact then names else part (many s) ∷ names) xs es → KidsParse p t (Counted s (NoMore exact)) (NamesMean p names) xs es
more_by p t s names true placed suit xs es it = kids_none p t (Counted s (NoMore true)) (NamesMean p names) (record { all = refl; count = λ h. refl }) it
more_by p t s names false placed suit xs es it =
    refit es (λ ts c. record { all = c.all; count = λ h. absurd (true≢false (sym h)) }) (many_means p t s names placed suit xs es it)

-- ---- the kids of a row

-- the exact number of members, where the construct has one
abbrev pub IsExact : Row → ℕ → Type 0
IsExact (Leaf held) n = Unit {0}
IsExact (Node front Nothing) n = Unit {0}
IsExact (Node front (Optional s)) n = Unit {0}
IsExact (Node front (AtLeast s least)) n = Unit {0}
IsExact (Node front (SomeThen s last)) n = Unit {0}
IsExact (Node front (Set s least)) n = n ≡ length front + least

-- kids as the row of a construct with this tag asks for
pub record FitsKids (t : Tag) (row : Row) (ts : List Tree) : Type 0 where
  pub fit : fits row (map tag_of ts) ≡ true
  pub minimum : MeetsMinimum row (length ts)
  pub exact : is_tag tag.InverseObjectProperties t ≡ true → IsExact row (length ts)

pub tags_count : (ts : List Tree) → length (map tag_of ts) ≡ length ts
tags_count [] = refl
tags_count (t ∷ ts) = ap suc (tags_count ts)

many_fit : (t : Tag) (s : Sort) (least : ℕ) (ts : List Tree) → Counted s (IsMore least (λ n. Unit {0})) ts → FitsKids t (Node [] (AtLeast s least)) ts
many_fit t s least ts c = record {
  fit = both_true (let a = c.count.count in let b = tags_count ts in le-leb least (length (map tag_of ts)) (omega arith)) c.all;
  minimum = tt;
  exact = λ h. tt;
}

set_fit : (t : Tag) (s : Sort) (least : ℕ) (ts : List Tree) → Counted s (IsMore least (NoMore (is_tag tag.InverseObjectProperties t))) ts → FitsKids t (Node [] (Set s least)) ts
set_fit t s least ts c = record {
  fit = both_true (let a = c.count.count in let b = tags_count ts in le-leb (min least 1) (length (map tag_of ts)) (omega arith)) c.all;
  minimum = (let a = c.count.count in omega arith);
  exact = λ h. (let a = c.count.count in let b = c.count.good h in omega arith);
}

-- data properties and then a data range
some_then : (t : Tag) (ts : List Tree) → Joined (FitsOne sort.DataPropertyExpression) FitsAfter ts → FitsKids t (Node [] (SomeThen sort.DataPropertyExpression sort.DataRange)) ts
some_then t ts j =
    let it = one_then sort.DataPropertyExpression j.front j.back ts j.are j.first in
    record {
      fit = subst (λ l. ends_in sort.DataPropertyExpression sort.DataRange (map tag_of l) ≡ true) (sym it.are) (j.second (tag_of it.one) it.admitted);
      minimum = tt;
      exact = λ h. tt;
    }

some_means : (p : List Prefix) (t : Tag) (names : Names) → Suits sort.DataPropertyExpression t → Suits sort.DataRange t → (xs : List Token) (es : Events) → NamesMean p (part (one sort.DataPropertyExpression) ∷ part after ∷ names) xs es → KidsParse p t (FitsKids t (Node [] (SomeThen sort.DataPropertyExpression sort.DataRange))) (NamesMean p names) xs es
some_means p t names suit last_suits xs es it =
    let behind = it.back in
    let behind_parse =
    moved (KidsParse p t FitsAfter (NamesMean p names)) behind.tokens_are behind.events_are
    (last_part p t FitsAfter (Suits sort.DataRange) 0 names last_suits behind.front_tokens behind.front_events (behind.front after refl) behind.back_tokens behind.back_events behind.back) in
    moved (KidsParse p t (FitsKids t (Node [] (SomeThen sort.DataPropertyExpression sort.DataRange))) (NamesMean p names)) it.tokens_are it.events_are
    (refit (it.front_events ++ it.back_events) (some_then t)
    (parts it.front_events it.back_events suit (it.front (one sort.DataPropertyExpression) refl) behind_parse))

rest_means : (p : List Prefix) (t : Tag) (rest : Rest) (names : Names) → rest_test t rest ≡ true → (xs : List Token) (es : Events) → NamesMean p (rest_symbols t rest names) xs es → KidsParse p t (FitsKids t (Node [] rest)) (NamesMean p names) xs es
rest_means p t Nothing names h xs es it =
    kids_none p t (FitsKids t (Node [] Nothing)) (NamesMean p names) (record { fit = refl; minimum = tt; exact = λ e. tt }) it
rest_means p t (Optional s) names h xs es it =
    moved (KidsParse p t (FitsKids t (Node [] (Optional s))) (NamesMean p names)) it.tokens_are it.events_are
    (refit (it.front_events ++ it.back_events) (λ ts f. record { fit = f; minimum = tt; exact = λ e. tt })
    (last_part p t (FitsMaybe s) (Suits s) 0 names (second_so (is_within (maybe s)) (suits s t) h) it.front_tokens it.front_events (it.front (maybe s) (maybe_is_placed s (first_so (is_within (maybe s)) (suits s t) h))) it.back_tokens it.back_events it.back))
rest_means p t (AtLeast s least) names h xs es it =
    let placed = first_so (is_within (many s)) (suits s t) h in
    let suit = second_so (is_within (many s)) (suits s t) h in
    refit es (many_fit t s least) (times_means p t s least (part (many s) ∷ names) names (λ n. Unit {0}) suit (many_means p t s names placed suit) xs es it)
rest_means p t (Set s least) names h xs es it =
    let placed = first_so (is_within (many s)) (suits s t) h in
    let suit = second_so (is_within (many s)) (suits s t) h in
    let exact = is_tag tag.InverseObjectProperties t in
    refit es (set_fit t s least) (times_means p t s least (more_members t s names) names (NoMore exact) suit (more_by p t s names exact placed suit) xs es it)
rest_means p t (SomeThen s last) names h xs es it =
    let first = first_so (is_data_property s) (is_data_range last && (suits s t && suits last t)) h in
    let others = second_so (is_data_property s) (is_data_range last && (suits s t && suits last t)) h in
    let range = first_so (is_data_range last) (suits s t && suits last t) others in
    let both = second_so (is_data_range last) (suits s t && suits last t) others in
    let a = data_property_is s first in
    let b = data_range_is last range in
    subst₂ (λ u v. Suits u t → Suits v t → NamesMean p (part (one u) ∷ part after ∷ names) xs es → KidsParse p t (FitsKids t (Node [] (SomeThen u v))) (NamesMean p names) xs es) (sym a) (sym b)
    (λ u v m. some_means p t names u v xs es m)
    (first_so (suits s t) (suits last t) both) (second_so (suits s t) (suits last t) both) it

-- one more in front
minimum_more : (s : Sort) (front : List Sort) (rest : Rest) (n : ℕ) → MeetsMinimum (Node front rest) n → MeetsMinimum (Node (s ∷ front) rest) (suc n)
minimum_more s front Nothing n h = tt
minimum_more s front (Optional q) n h = tt
minimum_more s front (AtLeast q least) n h = tt
minimum_more s front (SomeThen q last) n h = tt
minimum_more s front (Set q least) n h = omega arith

pub exact_more : (s : Sort) (front : List Sort) (rest : Rest) (n : ℕ) → IsExact (Node front rest) n → IsExact (Node (s ∷ front) rest) (suc n)
exact_more s front Nothing n h = tt
exact_more s front (Optional q) n h = tt
exact_more s front (AtLeast q least) n h = tt
exact_more s front (SomeThen q last) n h = tt
exact_more s front (Set q least) n h = omega arith

front_fit : (t : Tag) (s : Sort) (front : List Sort) (rest : Rest) (ts : List Tree) → Joined (FitsOne s) (FitsKids t (Node front rest)) ts → FitsKids t (Node (s ∷ front) rest) ts
front_fit t s front rest ts j =
    let it = one_then s j.front j.back ts j.are j.first in
    let second = j.second in
    subst (FitsKids t (Node (s ∷ front) rest)) (sym it.are) record {
      fit = both_true it.admitted second.fit;
      minimum = minimum_more s front rest (length j.back) second.minimum;
      exact = λ h. exact_more s front rest (length j.back) (second.exact h);
    }

pub kids_mean : (p : List Prefix) (t : Tag) (front : List Sort) (rest : Rest) (names : Names) → (list_all (λ s. suits s t) front && rest_test t rest) ≡ true → (xs : List Token) (es : Events) → NamesMean p (front_symbols t front rest names) xs es → KidsParse p t (FitsKids t (Node front rest)) (NamesMean p names) xs es
kids_mean p t [] rest names h xs es it = rest_means p t rest names h xs es it
kids_mean p t (s ∷ front) rest names h xs es it =
    let all = first_so (suits s t && list_all (λ s. suits s t) front) (rest_test t rest) h in
    let suit = first_so (suits s t) (list_all (λ s. suits s t) front) all in
    let others = both_true (second_so (suits s t) (list_all (λ s. suits s t) front) all) (second_so (suits s t && list_all (λ s. suits s t) front) (rest_test t rest) h) in
    moved (KidsParse p t (FitsKids t (Node (s ∷ front) rest)) (NamesMean p names)) it.tokens_are it.events_are
    (refit (it.front_events ++ it.back_events) (front_fit t s front rest)
    (parts it.front_events it.back_events suit (it.front (one s) (one_is_placed s)) (kids_mean p t front rest names others it.back_tokens it.back_events it.back)))
