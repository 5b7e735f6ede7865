-- What is written for the kids of a construct leads along the symbols of its row.
use Rattle.std.proofs.Common.{◌≡◌, ◌≤◌, ℕ, zero, suc, ◌+◌, Bool, true, false, ◌&&◌, nat_le, min, List, [], ◌∷◌, length, map, ◌-◌, refl, sym, subst, subst₂, arith, true≢false}
use Rattle.std.specs.List.{AllByRecursion, list_all}
use Rattle.std.specs.Prelude.{if◌then◌else◌}
use Rattle.std.specs.Cmp.{first_so, second_so}
use Rattle.std.specs.Cmp.Derive.{both_true}
use Rattle.std.proofs.lemmas.Bool.{leb-true}
use Rattle.grammar.specs.Pages.IsIn.{first, later}
use Rattle.grammar.specs.Pages.Named.{part}
use Rattle.owl_atom.specs.declared.prefixes.Prefix.{Prefix}
use Rattle.owl_tokens.specs.declared.token.Token.{Token}
use Rattle.owl_tree.specs.declared.row.Rest.{Rest}
use Rattle.owl_tree.specs.declared.row.Rest.TheVariants.{Nothing, Optional, AtLeast, SomeThen, Set}
use Rattle.owl_tree.specs.declared.row.Sort.{Sort}
use Rattle.owl_tree.specs.declared.row.Sort.TheVariants as sort
use Rattle.owl_tree.specs.declared.tag.Tag.{Tag}
use Rattle.owl_tree.specs.declared.tag.Tag.TheVariants as tag
use Rattle.owl_tree.specs.Rows.{Node, admits, ends_in, fits_front, fits_rest, is_tag}
use Rattle.owl_tree.specs.Trees.{Tree, kids_of, tag_of}
use Rattle.fss_terms.specs.Spelling.{MeetsMinimum, spellings}
use Rattle.fss_terms.specs.Terms.{AreTerms}
use Rattle.fss_terms.specs.declared.term.Term.{Term}
use Rattle.fss_grammar.proofs.CompleteAfterLaws.{after_leads, first_property}
use Rattle.fss_grammar.proofs.CompleteLaws.{KidGoes, Leads, kid_leads, leads_none, leads_rule, one_leads}
use Rattle.fss_grammar.specs.Meaning.{FitsMany, Suits, suits}
use Rattle.fss_grammar.specs.Page.{Names, front_symbols, more_members, rest_symbols, times}
use Rattle.fss_grammar.specs.Page.Rule.{after, many, maybe, one}
use Rattle.fss_grammar.proofs.PageRows.{IsPlaced, is_within, many_is_placed, maybe_is_placed}
use Rattle.fss_grammar.proofs.RowTests.{data_property_is, data_range_is, is_data_property, is_data_range, rest_test}
use Rattle.fss_grammar.proofs.SoundNodeLaws.{FitsKids, IsExact, IsMore, tags_count}

-- ---- any number of a sort

many_leads : (p : List Prefix) (t : Tag) (s : Sort) (ts : List Tree) (xs : List Token) (more : List Term) → IsPlaced (many s) → Suits s t → AllByRecursion (KidGoes p t) ts → FitsMany s ts → AreTerms p xs (spellings t (kids_of ts) more) → Leads p (λ after. part (many s) ∷ after) ts xs more
many_leads p t s [] xs more placed suit kids fit h = leads_rule p (many s) (λ after. after) [] xs more placed first (leads_none p xs more h)
many_leads p t s (k ∷ ts) xs more placed suit kids fit h =
    let admitted = first_so (admits s (tag_of k)) (list_all (admits s) (map tag_of ts)) fit in
    let others = second_so (admits s (tag_of k)) (list_all (admits s) (map tag_of ts)) fit in
    leads_rule p (many s) (λ after. part (one s) ∷ part (many s) ∷ after) (k ∷ ts) xs more placed (later first)
    (kid_leads p t k ts s (λ after. part (many s) ∷ after) xs more kids.0 admitted suit h (λ rest g. many_leads p t s ts rest more placed suit kids.1 others g))

-- ---- so many and then such a number

-- what leads along the symbols behind them
abbrev Ends : List Prefix → Tag → Sort → (ℕ → Type 0) → (Names → Names) → Type 0
Ends p t s Good tail =
    (ts : List Tree) (xs : List Token) (more : List Term) → AllByRecursion (KidGoes p t) ts → FitsMany s ts → Good (length ts) → AreTerms p xs (spellings t (kids_of ts) more) → Leads p tail ts xs more

times_lead : (p : List Prefix) (t : Tag) (s : Sort) (least : ℕ) (Good : ℕ → Type 0) (tail : Names → Names) → Suits s t → Ends p t s Good tail → Ends p t s (IsMore least Good) (λ after. times least s (tail after))
times_lead p t s zero Good tail suit ends ts xs more kids fit count h =
    ends ts xs more kids fit (let e = count.count in let same : count.more ≡ length ts = omega arith in subst Good same count.good) h
times_lead p t s (suc least) Good tail suit ends [] xs more kids fit count h = absurd (let e = count.count in omega arith)
times_lead p t s (suc least) Good tail suit ends (k ∷ ts) xs more kids fit count h =
    let admitted = first_so (admits s (tag_of k)) (list_all (admits s) (map tag_of ts)) fit in
    let others = second_so (admits s (tag_of k)) (list_all (admits s) (map tag_of ts)) fit in
    let fewer : IsMore least Good (length ts) = record { more = count.more; count = (let e = count.count in omega arith); good = count.good } in
    kid_leads p t k ts s (λ after. times least s (tail after)) xs more kids.0 admitted suit h
    (λ rest g. times_lead p t s least Good tail suit ends ts rest more kids.1 others fewer g)

-- none more, where the number is exact
abbrev ExactlyNone : Bool → ℕ → Type 0
ExactlyNone b n = b ≡ true → n ≡ 0

more_by : (p : List Prefix) (t : Tag) (s : Sort) (exact : Bool) → IsPlaced (many s) → Suits s t → Ends p t s (ExactlyNone exact) (λ after. if exact then after else part (many s) ∷ after)
more_by p t s true placed suit [] xs more kids fit none h = leads_none p xs more h
more_by p t s true placed suit (k ∷ ts) xs more kids fit none h = absurd (let e = none refl in omega arith)
more_by p t s false placed suit ts xs more kids fit none h = many_leads p t s ts xs more placed suit kids fit h

-- ---- the kids of a row

maybe_leads : (p : List Prefix) (t : Tag) (s : Sort) (ts : List Tree) (xs : List Token) (more : List Term) → IsPlaced (maybe s) → Suits s t → AllByRecursion (KidGoes p t) ts → fits_rest (Optional s) (map tag_of ts) ≡ true → AreTerms p xs (spellings t (kids_of ts) more) → Leads p (λ after. part (maybe s) ∷ after) ts xs more
maybe_leads p t s [] xs more placed suit kids fit h = leads_rule p (maybe s) (λ after. after) [] xs more placed first (leads_none p xs more h)
maybe_leads p t s (k ∷ []) xs more placed suit kids fit h =
    leads_rule p (maybe s) (λ after. part (one s) ∷ after) (k ∷ []) xs more placed (later first) (one_leads p t k s xs more kids.0 fit suit h)
maybe_leads p t s (k ∷ l ∷ ts) xs more placed suit kids fit h = absurd (true≢false (sym fit))

nothing_leads : (p : List Prefix) (t : Tag) (ts : List Tree) (xs : List Token) (more : List Term) → fits_rest Nothing (map tag_of ts) ≡ true → AreTerms p xs (spellings t (kids_of ts) more) → Leads p (λ after. after) ts xs more
nothing_leads p t [] xs more fit h = leads_none p xs more h
nothing_leads p t (k ∷ ts) xs more fit h = absurd (true≢false (sym fit))

at_least : (least : ℕ) (ts : List Tree) → nat_le least (length (map tag_of ts)) ≡ true → IsMore least (λ n. Unit {0}) (length ts)
at_least least ts h =
    let many = leb-true least (length (map tag_of ts)) h in
    let e = tags_count ts in
    record { more = length ts - least; count = omega arith; good = tt }

set_count : (t : Tag) (least n : ℕ) → least ≤ n → (is_tag tag.InverseObjectProperties t ≡ true → n ≡ 0 + least) → IsMore least (ExactlyNone (is_tag tag.InverseObjectProperties t)) n
set_count t least n h exact = record {
  more = n - least;
  count = omega arith;
  good = λ e. (let same = exact e in omega arith);
}

some_leads : (p : List Prefix) (t : Tag) (ts : List Tree) (xs : List Token) (more : List Term) → Suits sort.DataRange t → AllByRecursion (KidGoes p t) ts → ends_in sort.DataPropertyExpression sort.DataRange (map tag_of ts) ≡ true → AreTerms p xs (spellings t (kids_of ts) more) → Leads p (λ a. part (one sort.DataPropertyExpression) ∷ part after ∷ a) ts xs more
some_leads p t [] xs more suit kids fit h = absurd (true≢false (sym fit))
some_leads p t (k ∷ []) xs more suit kids fit h = absurd (true≢false (sym fit))
some_leads p t (k ∷ l ∷ ts) xs more suit kids fit h =
    kid_leads p t k (l ∷ ts) sort.DataPropertyExpression (λ a. part after ∷ a) xs more kids.0 (first_property (tag_of k) (tag_of l) (map tag_of ts) fit) suit h
    (λ rest g. after_leads p t (tag_of k) (l ∷ ts) rest more suit kids.1 fit g)

rest_leads : (p : List Prefix) (t : Tag) (rest : Rest) (ts : List Tree) (xs : List Token) (more : List Term) → rest_test t rest ≡ true → AllByRecursion (KidGoes p t) ts → FitsKids t (Node [] rest) ts → AreTerms p xs (spellings t (kids_of ts) more) → Leads p (rest_symbols t rest) ts xs more
rest_leads p t Nothing ts xs more test kids fits h = nothing_leads p t ts xs more fits.fit h
rest_leads p t (Optional s) ts xs more test kids fits h =
    maybe_leads p t s ts xs more (maybe_is_placed s (first_so (is_within (maybe s)) (suits s t) test)) (second_so (is_within (maybe s)) (suits s t) test) kids fits.fit h
rest_leads p t (AtLeast s least) ts xs more test kids fits h =
    let placed = many_is_placed s (first_so (is_within (many s)) (suits s t) test) in
    let suit = second_so (is_within (many s)) (suits s t) test in
    let count = at_least least ts (first_so (nat_le least (length (map tag_of ts))) (list_all (admits s) (map tag_of ts)) fits.fit) in
    times_lead p t s least (λ n. Unit {0}) (λ a. part (many s) ∷ a) suit (λ us ys mores all fit good g. many_leads p t s us ys mores placed suit all fit g) ts xs more kids (second_so (nat_le least (length (map tag_of ts))) (list_all (admits s) (map tag_of ts)) fits.fit) count h
rest_leads p t (Set s least) ts xs more test kids fits h =
    let placed = many_is_placed s (first_so (is_within (many s)) (suits s t) test) in
    let suit = second_so (is_within (many s)) (suits s t) test in
    let exact = is_tag tag.InverseObjectProperties t in
    let count = set_count t least (length ts) (let m = fits.minimum in omega arith) fits.exact in
    times_lead p t s least (ExactlyNone exact) (more_members t s) suit (more_by p t s exact placed suit) ts xs more kids (second_so (nat_le (min least 1) (length (map tag_of ts))) (list_all (admits s) (map tag_of ts)) fits.fit) count h
rest_leads p t (SomeThen s last) ts xs more test kids fits h =
    let others = second_so (is_data_property s) (is_data_range last && (suits s t && suits last t)) test in
    let both = second_so (is_data_range last) (suits s t && suits last t) others in
    let a = data_property_is s (first_so (is_data_property s) (is_data_range last && (suits s t && suits last t)) test) in
    let b = data_range_is last (first_so (is_data_range last) (suits s t && suits last t) others) in
    subst₂ (λ u v. Suits v t → ends_in u v (map tag_of ts) ≡ true → Leads p (λ a. part (one u) ∷ part after ∷ a) ts xs more) (sym a) (sym b)
    (λ suit fit. some_leads p t ts xs more suit kids fit h) (second_so (suits s t) (suits last t) both) fits.fit

-- the kids behind the first
minimum_less : (s : Sort) (front : List Sort) (rest : Rest) (n : ℕ) → MeetsMinimum (Node (s ∷ front) rest) (suc n) → MeetsMinimum (Node front rest) n
minimum_less s front Nothing n h = tt
minimum_less s front (Optional q) n h = tt
minimum_less s front (AtLeast q least) n h = tt
minimum_less s front (SomeThen q last) n h = tt
minimum_less s front (Set q least) n h = omega arith

exact_less : (s : Sort) (front : List Sort) (rest : Rest) (n : ℕ) → IsExact (Node (s ∷ front) rest) (suc n) → IsExact (Node front rest) n
exact_less s front Nothing n h = tt
exact_less s front (Optional q) n h = tt
exact_less s front (AtLeast q least) n h = tt
exact_less s front (SomeThen q last) n h = tt
exact_less s front (Set q least) n h = omega arith

pub kids_lead : (p : List Prefix) (t : Tag) (front : List Sort) (rest : Rest) (ts : List Tree) (xs : List Token) (more : List Term) → (list_all (λ s. suits s t) front && rest_test t rest) ≡ true → AllByRecursion (KidGoes p t) ts → FitsKids t (Node front rest) ts → AreTerms p xs (spellings t (kids_of ts) more) → Leads p (front_symbols t front rest) ts xs more
kids_lead p t [] rest ts xs more test kids fits h = rest_leads p t rest ts xs more test kids fits h
kids_lead p t (s ∷ front) rest [] xs more test kids fits h = absurd (true≢false (sym fits.fit))
kids_lead p t (s ∷ front) rest (k ∷ ts) xs more test kids fits h =
    let all = first_so (suits s t && list_all (λ s. suits s t) front) (rest_test t rest) test in
    let suit = first_so (suits s t) (list_all (λ s. suits s t) front) all in
    let others = both_true (second_so (suits s t) (list_all (λ s. suits s t) front) all) (second_so (suits s t && list_all (λ s. suits s t) front) (rest_test t rest) test) in
    let admitted = first_so (admits s (tag_of k)) (fits_front front rest (map tag_of ts)) fits.fit in
    let fewer : FitsKids t (Node front rest) ts = record { fit = second_so (admits s (tag_of k)) (fits_front front rest (map tag_of ts)) fits.fit; minimum = minimum_less s front rest (length ts) fits.minimum; exact = λ e. exact_less s front rest (length ts) (fits.exact e) } in
    kid_leads p t k ts s (front_symbols t front rest) xs more kids.0 admitted suit h (λ left g. kids_lead p t front rest ts left more others kids.1 fewer g)
