-- An axiom that is a triple in a graph is one that one triple says, so that it has no bare one beside it.
use Rattle.std.proofs.Common.{◌≡◌, ◌≤◌, ℕ, suc, Bool, true, false, cond, not, List, [], ◌∷◌, length, inl, inr, refl, sym, ap, ◌∙◌, arith}
use Rattle.std.specs.Prelude.{Contains, ◌&&◌, ◌||◌, nat_le, Option, None, Some}
use Rattle.std.specs.List.{filter, list_all}
use Rattle.std.proofs.lemmas.Bool.{and_from, and_parts, both_ways, cases_Bool, le-leb, not-true, or_cases, or_left, or_right}
use Rattle.owl_list.proofs.AscendingLaws.{in_none}
use Rattle.owl_tree.specs.declared.tag.Tag.{Tag}
use Rattle.owl_tree.specs.Rows.{is_tag}
use Rattle.owl_tree.specs.Tags.{number_of}
use Rattle.owl_tree.specs.Trees.{Tree, Kids, leaf, node, no_kids, kid, list_of}
use Rattle.rdf_graph.specs.declared.triple.Triple.{Triple}
use Rattle.rdf_meaning.specs.declared.row.Part.{Part}
use Rattle.rdf_meaning.specs.declared.row.Place.{Place}
use Rattle.rdf_meaning.specs.declared.row.Site.{Site}
use Rattle.rdf_meaning.specs.declared.row.Site.TheVariants.{Node, TypedBy, OtherType, LinkedBy, OtherLink}
use Rattle.rdf_meaning.specs.declared.row.Want.{Want}
use Rattle.rdf_meaning.specs.declared.row.Want.TheVariants.{One, Many, Whole, Keys, Declared, Mark, True}
use Rattle.owl_list.proofs.FilterLaws.{from_filter}
use Rattle.rdf_meaning.proofs.ListLaws.{passes}
use Rattle.rdf_meaning.specs.Rows.{Row, axiom_rows}
use Rattle.rdf_normal.specs.OneTriple.{is_negative, is_one_triple, lists_members}
use Rattle.rdf_mapping.proofs.WrittenLaws.{first_in}
use Rattle.rdf_mapping.specs.Drawing.{Kid, Placed, Statement, linked, linked_back, looped, standing, unsaid, fit, is_pair, kid_of, kids_seen, loop_at, loop_by, placed, row_for, stated, stated_by, statement_of, suits, tags_of, takes_one}
use Rattle.rdf_mapping.specs.Forms.{Form}
use Rattle.rdf_mapping.proofs.NodeDrawingLaws.{same_tag}
use Rattle.rdf_mapping.specs.Spelling.{is_at_node}
use Rattle.rdf_axioms.specs.AxiomReading.{main_of}

-- the statement is a triple
abbrev has_main : Statement → Bool
has_main (linked f p q) = true
has_main (linked_back f p q) = true
has_main (looped p f) = true
has_main (standing arcs) = false
has_main unsaid = false

main_there : (name : ℕ → List ℕ) (s : Statement) (n : ℕ) (t : Triple) → Contains (main_of name s n) t → has_main s ≡ true
main_there name (linked f p q) n t m = refl
main_there name (linked_back f p q) n t m = refl
main_there name (looped p f) n t m = refl
main_there name (standing arcs) n t m = absurd (in_none t m)
main_there name unsaid n t m = absurd (in_none t m)

-- The row of an axiom that is a triple.

pub record IsRowAt (rows : List Row) (t : Tag) (ts : List Tag) (r : Row) : Type 0 where
  pub among : Contains rows r
  pub tag : is_tag r.tag t ≡ true
  pub fits : fit r.parts ts ≡ true

pub row_found : (rows : List Row) (t : Tag) (ts : List Tag) (r : Row) → row_for rows t ts ≡ Some r → IsRowAt rows t ts r
unfolding row_for
row_found rows t ts r e =
    let kept = from_filter (λ q. is_tag q.tag t && fit q.parts ts) rows r (first_in (filter (λ q. is_tag q.tag t && fit q.parts ts) rows) r e) in
    let both = and_parts (is_tag r.tag t) (fit r.parts ts) kept.passes in
    record { among = kept.inside; tag = both.0; fits = both.1 }

abbrev IsMainRow : Option Row → Row → Type 0
IsMainRow o r = (o ≡ Some r) × (is_at_node r.site ≡ false)

no_node : (site : Site) (ps : List Placed) → has_main (stated site ps) ≡ true → is_at_node site ≡ false
no_node (Node r) ps h = absurd (both_ways false refl h)
no_node (TypedBy w) ps h = refl
no_node OtherType ps h = refl
no_node (LinkedBy w) ps h = refl
no_node OtherLink ps h = refl

main_row : (o : Option Row) (ks : List Kid) → has_main (stated_by o ks) ≡ true → (r : Row) × IsMainRow o r
main_row None ks h = absurd (both_ways false refl h)
main_row (Some r) ks h = (r, (refl, no_node r.site (placed r.parts ks) h))

no_loop_node : (site : Site) (f : Form) → has_main (loop_at site f) ≡ true → is_at_node site ≡ false
no_loop_node (Node r) f h = absurd (both_ways false refl h)
no_loop_node (TypedBy w) f h = refl
no_loop_node OtherType f h = refl
no_loop_node (LinkedBy w) f h = refl
no_loop_node OtherLink f h = refl

loop_row : (o : Option Row) (f : Form) → has_main (loop_by o f) ≡ true → (r : Row) × IsMainRow o r
loop_row None f h = absurd (both_ways false refl h)
loop_row (Some r) f h = (r, (refl, no_loop_node r.site f h))

-- No such row is of an axiom with a node of its own, and where more members would have one, it takes two.

abbrev takes_two : List Part → Bool
takes_two (p ∷ q ∷ []) = takes_one p.want && takes_one q.want
takes_two _ = false

abbrev is_of_triple : Row → Bool
is_of_triple r = is_at_node r.site || (not (is_negative r.tag) && (not (lists_members r.tag) || takes_two r.parts))

rows_of_triples : list_all is_of_triple axiom_rows ≡ true
unfolding axiom_rows number_of
rows_of_triples = refl

fit_next : (place : Place) (w : Want) (ps : List Part) (ts : List Tag) → takes_one w ≡ true → fit (record { place = place; want = w } ∷ ps) ts ≡ true → (t : Tag) × (us : List Tag) × (ts ≡ t ∷ us) × (fit ps us ≡ true)
unfolding fit
fit_next place (One s) ps [] h f = absurd (both_ways false refl f)
fit_next place (One s) ps (t ∷ ts) h f = (t, ts, refl, (and_parts (suits (One s) t) (fit ps ts) f).1)
fit_next place (Whole u s least) ps [] h f = absurd (both_ways false refl f)
fit_next place (Whole u s least) ps (t ∷ ts) h f = (t, ts, refl, (and_parts (suits (Whole u s least) t) (fit ps ts) f).1)
fit_next place (Declared u) ps [] h f = absurd (both_ways false refl f)
fit_next place (Declared u) ps (t ∷ ts) h f = (t, ts, refl, (and_parts (suits (Declared u) t) (fit ps ts) f).1)
fit_next place (Many s least) ps ts h f = absurd (both_ways false refl h)
fit_next place Keys ps ts h f = absurd (both_ways false refl h)
fit_next place Mark ps ts h f = absurd (both_ways false refl h)
fit_next place True ps ts h f = absurd (both_ways false refl h)

fit_none : (ts : List Tag) → fit [] ts ≡ true → ts ≡ []
unfolding fit
fit_none [] f = refl
fit_none (t ∷ ts) f = absurd (both_ways false refl f)

two_tags : (ps : List Part) (ts : List Tag) → takes_two ps ≡ true → fit ps ts ≡ true → length ts ≡ 2
two_tags [] ts h f = absurd (both_ways false refl h)
two_tags (p ∷ []) ts h f = absurd (both_ways false refl h)
two_tags (p ∷ q ∷ []) ts h f =
    let wants = and_parts (takes_one p.want) (takes_one q.want) h in
    let first = fit_next p.place p.want (q ∷ []) ts wants.0 f in
    let second = fit_next q.place q.want [] first.1 wants.1 first.3 in
    ap length (first.2 ∙ ap (λ (us : List Tag). first.0 ∷ us) (second.2 ∙ ap (λ (us : List Tag). second.0 ∷ us) (fit_none second.1 second.3)))
two_tags (p ∷ q ∷ r ∷ ps) ts h f = absurd (both_ways false refl h)

record IsTripleRow (t : Tag) (ts : List Tag) : Type 0 where
  pub positive : is_negative t ≡ false
  pub two : lists_members t ≡ true → length ts ≡ 2

triple_row : (t : Tag) (ts : List Tag) (r : Row) → IsMainRow (row_for axiom_rows t ts) r → IsTripleRow t ts
triple_row t ts r is =
    let at = row_found axiom_rows t ts r is.0 in
    let same : r.tag ≡ t = same_tag r.tag t at.tag in
    elim (or_cases (is_at_node r.site) _ (passes is_of_triple axiom_rows r rows_of_triples at.among)) [
      | inl n ↦ absurd (both_ways (is_at_node r.site) is.1 n)
      | inr h ↦
          let both = and_parts (not (is_negative r.tag)) (not (lists_members r.tag) || takes_two r.parts) h in
          record {
            positive = ap is_negative (sym same) ∙ not-true (is_negative r.tag) both.0;
            two = λ l.
                elim (or_cases (not (lists_members r.tag)) (takes_two r.parts) both.1) [
                  | inl n ↦ absurd (both_ways (lists_members r.tag) (not-true (lists_members r.tag) n) (ap lists_members same ∙ l))
                  | inr w ↦ two_tags r.parts ts w at.fits
                ];
          }
    ]

-- and so one triple says the axiom
one_by : (t : Tag) (n : ℕ) → is_negative t ≡ false → (lists_members t ≡ true → n ≤ 3) → (not (is_negative t) && (not (lists_members t) || nat_le n 3)) ≡ true
one_by t n p l =
    and_from (not (is_negative t)) (not (lists_members t) || nat_le n 3) (ap not p)
    (elim (cases_Bool (lists_members t)) [
      | inl y ↦ or_right (not (lists_members t)) (nat_le n 3) (le-leb n 3 (l y))
      | inr z ↦ or_left (not (lists_members t)) (nat_le n 3) (ap not z)
    ])

seen_length : (ks : Kids) → length (tags_of (kids_seen ks)) ≡ length (list_of ks)
seen_length no_kids = refl
seen_length (kid t ks) = ap suc (seen_length ks)

by_row : (t : Tag) (ns : Tree) (ks : Kids) → has_main (stated_by (row_for axiom_rows t (tags_of (kids_seen ks))) (kids_seen ks)) ≡ true → is_one_triple (node t (kid ns ks)) ≡ true
by_row t ns ks h =
    let r = main_row (row_for axiom_rows t (tags_of (kids_seen ks))) (kids_seen ks) h in
    let is = triple_row t (tags_of (kids_seen ks)) r.0 r.1 in
    one_by t (suc (length (list_of ks))) is.positive (λ l. let two = is.two l in let same = seen_length ks in omega (arith, two, same))

one_kid : (b : Bool) (t : Tag) (ns k : Tree) → has_main (cond b (loop_by (row_for axiom_rows t ((kid_of k).tag ∷ (kid_of k).tag ∷ [])) (kid_of k).form) (stated_by (row_for axiom_rows t ((kid_of k).tag ∷ [])) (kid_of k ∷ []))) ≡ true → is_one_triple (node t (kid ns (kid k no_kids))) ≡ true
one_kid true t ns k h =
    let r = loop_row (row_for axiom_rows t ((kid_of k).tag ∷ (kid_of k).tag ∷ [])) (kid_of k).form h in
    one_by t 2 (triple_row t ((kid_of k).tag ∷ (kid_of k).tag ∷ []) r.0 r.1).positive (λ l. omega arith)
one_kid false t ns k h = by_row t ns (kid k no_kids) h

main_one : (a : Tree) → has_main (statement_of a) ≡ true → is_one_triple a ≡ true
main_one (leaf t a) h = absurd (both_ways false refl h)
main_one (node t no_kids) h = absurd (both_ways false refl h)
main_one (node t (kid ns no_kids)) h = by_row t ns no_kids h
main_one (node t (kid ns (kid k no_kids))) h = one_kid (is_pair t) t ns k h
main_one (node t (kid ns (kid k (kid l ks)))) h = by_row t ns (kid k (kid l ks)) h

pub main_is_one : (name : ℕ → List ℕ) (a : Tree) (n : ℕ) (t : Triple) → Contains (main_of name (statement_of a) n) t → is_one_triple a ≡ true
main_is_one name a n t m = main_one a (main_there name (statement_of a) n t m)
