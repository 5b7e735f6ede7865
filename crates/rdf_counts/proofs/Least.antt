-- How many triples a row has at least, by how many kids there are.
use Rattle.std.proofs.Common.{◌≡◌, ◌≤◌, ◌+◌, ◌*◌, ◌-◌, ℕ, Bool, true, false, List, [], ◌∷◌, length, drop, take, inl, inr, refl, sym, ap, ◌∙◌, arith}
use Rattle.std.specs.Prelude.{Contains, ◌&&◌, ◌||◌, cond, map, min, nat_le, Some}
use Rattle.std.specs.List.{filter, list_all, sum_by}
use Rattle.std.proofs.lemmas.Bool.{and_parts, both_ways, or_cases}
use Rattle.std.proofs.lemmas.List.{drop-map, length-map, length-take-le}
use Rattle.std.proofs.lemmas.List.Sums.{sum_by-cons, sum_by-take-drop}
use Rattle.owl_list.proofs.FilterLaws.{from_filter}
use Rattle.owl_tree.specs.declared.tag.Tag.{Tag}
use Rattle.owl_tree.specs.declared.tag.Tag.TheVariants as tag
use Rattle.owl_tree.specs.declared.row.Sort.{Sort}
use Rattle.owl_tree.specs.Rows.{admits, is_tag}
use Rattle.owl_tree.specs.Tags.{number_of}
use Rattle.rdf_graph.specs.declared.term.Term.TheVariants.{Iri, Literal}
use Rattle.rdf_meaning.specs.Denotation.{true_literal}
use Rattle.rdf_meaning.specs.Words.{word_iri}
use Rattle.rdf_meaning.specs.declared.row.Part.{Part}
use Rattle.rdf_meaning.specs.declared.row.Place.{Place}
use Rattle.rdf_meaning.specs.declared.row.Place.TheVariants.{At, Subject, Predicate, Object}
use Rattle.rdf_meaning.specs.declared.row.Want.{Want}
use Rattle.rdf_meaning.specs.declared.row.Want.TheVariants.{One, Many, Whole, Keys, Declared, Mark, True}
use Rattle.rdf_meaning.specs.declared.row.Site.{Site}
use Rattle.rdf_meaning.specs.declared.row.Site.TheVariants.{Node, TypedBy, OtherType, LinkedBy}
use Rattle.rdf_meaning.proofs.ListLaws.{passes}
use Rattle.rdf_meaning.specs.Nodes.{type_iri}
use Rattle.rdf_meaning.specs.Rows.{Row, axiom_rows, node_rows}
use Rattle.rdf_mapping.specs.Drawing.{Kid, Placed, arcs_of, between, fit, node_form, stated, forms_of, listed, placed, placed_at, row_for, singles, tags_of, takes_one}
use Rattle.rdf_mapping.specs.Forms.{Form, plain, twice, list_form}
use Rattle.rdf_mapping.proofs.NodeDrawingLaws.{row_form, same_tag}
use Rattle.rdf_mapping.proofs.WrittenLaws.{first_in}
use Rattle.rdf_counts.specs.Counts.{arcs_drawn, drawn, is_left_out, kids_drawn, statement_drawn}

-- Lists: two triples for each element.

abbrev cells : List Form → ℕ
cells fs = 2 * length fs + sum_by drawn fs

list_least : (fs : List Form) → cells fs ≤ drawn (list_form fs)
list_least [] = omega arith
list_least (f ∷ fs) = let both = sum_by-cons drawn f fs in let rest = list_least fs in omega (arith, both, rest)

one_least : (b : Bool) (f : Form) → cells (f ∷ []) ≤ drawn (cond b (twice f) (list_form (f ∷ [])))
one_least true f = let one = sum_by-cons drawn f [] in omega (arith, one)
one_least false f = list_least (f ∷ [])

pub listed_least : (least : ℕ) (fs : List Form) → cells fs ≤ drawn (listed least fs)
listed_least least [] = omega arith
listed_least least (f ∷ []) = one_least (nat_le 2 least) f
listed_least least (f ∷ g ∷ fs) = list_least (f ∷ g ∷ fs)

-- Kids.

forms_drawn : (ks : List Kid) → sum_by drawn (forms_of ks) ≡ kids_drawn ks
forms_drawn [] = refl
forms_drawn (k ∷ ks) =
    let first = sum_by-cons drawn k.form (forms_of ks) in
    let second = sum_by-cons (λ l. drawn l.form) k ks in
    omega (arith, first, second, forms_drawn ks)

-- a list of so many of them
many_least : (least n : ℕ) (ks : List Kid) → n ≤ length ks → 2 * n + kids_drawn (take n ks) ≤ drawn (listed least (forms_of (take n ks)))
many_least least n ks h =
    let whole = listed_least least (forms_of (take n ks)) in
    let same = forms_drawn (take n ks) in
    let long = length-map (take n ks) (λ (k : Kid). k.form) in
    let taken = length-take-le n ks h in
    omega (arith, whole, same, long, taken)

-- What stands at the parts of a row.

abbrev pub placed_drawn : List Placed → ℕ
placed_drawn [] = 0
placed_drawn (p ∷ ps) = drawn p.form + placed_drawn ps

abbrev pub at_node : Place → Bool
at_node (At w) = true
at_node Subject = false
at_node Predicate = false
at_node Object = false

-- the part takes a kid, or a list of kids, or none
abbrev pub is_plain : Place → Want → Bool
is_plain place (One s) = true
is_plain place (Many s least) = true
is_plain place (Whole t s least) = false
is_plain place Keys = false
is_plain place (Declared t) = true
is_plain place Mark = at_node place
is_plain place True = true

pub record StandLeast (ps : List Part) (ks : List Kid) (qs : List Placed) : Type 0 where
  pub least : 2 * (length ks - singles ps) + kids_drawn ks ≤ placed_drawn qs
  pub places : map (λ q. q.place) qs ≡ map (λ p. p.place) ps

abbrev one_if : Bool → ℕ
one_if b = cond b 1 0

-- how many kids it takes alone
abbrev single : Want → ℕ
single w = one_if (takes_one w)

abbrev part_at : Place → Want → Part
part_at place want = record { place = place; want = want }

one_stands : (place : Place) (w : Want) (ps : List Part) (k : Kid) (ks : List Kid) (qs : List Placed) → takes_one w ≡ true → StandLeast ps ks qs → StandLeast (part_at place w ∷ ps) (k ∷ ks) (placed_at place k.form ∷ qs)
one_stands place w ps k ks qs one h =
    let count = sum_by-cons (λ (p : Part). single p.want) (part_at place w) ps in
    let this : single w ≡ 1 = ap one_if one in
    let both = sum_by-cons (λ (l : Kid). drawn l.form) k ks in
    let rest = h.least in
    record { least = omega (arith, count, this, both, rest); places = ap (λ (l : List Place). place ∷ l) h.places }

none_stands : (place : Place) (w : Want) (f : Form) (ps : List Part) (ks : List Kid) (qs : List Placed) → takes_one w ≡ false → StandLeast ps ks qs → StandLeast (part_at place w ∷ ps) ks (placed_at place f ∷ qs)
none_stands place w f ps ks qs none h =
    let count = sum_by-cons (λ (p : Part). single p.want) (part_at place w) ps in
    let this : single w ≡ 0 = ap one_if none in
    let rest = h.least in
    record { least = omega (arith, count, this, rest); places = ap (λ (l : List Place). place ∷ l) h.places }

many_stands : (place : Place) (s : Sort) (least : ℕ) (ps : List Part) (ks : List Kid) (qs : List Placed) → StandLeast ps (drop (length ks - singles ps) ks) qs → StandLeast (part_at place (Many s least) ∷ ps) ks (placed_at place (listed least (forms_of (take (length ks - singles ps) ks))) ∷ qs)
many_stands place s least ps ks qs h =
    let n = length ks - singles ps in
    let count = sum_by-cons (λ (p : Part). single p.want) (part_at place (Many s least)) ps in
    let here = many_least least n ks (omega arith) in
    let both = sum_by-take-drop (λ (l : Kid). drawn l.form) ks n in
    let rest = h.least in
    record { least = omega (arith, count, here, both, rest); places = ap (λ (l : List Place). place ∷ l) h.places }

wanted_stand : (place : Place) (w : Want) (ps : List Part) → is_plain place w ≡ true → ((ks : List Kid) → fit ps (tags_of ks) ≡ true → StandLeast ps ks (placed ps ks)) → (ks : List Kid) → fit (part_at place w ∷ ps) (tags_of ks) ≡ true → StandLeast (part_at place w ∷ ps) ks (placed (part_at place w ∷ ps) ks)
unfolding fit placed
wanted_stand place (One s) ps a h [] f = absurd (both_ways false refl f)
wanted_stand place (One s) ps a h (k ∷ ks) f = one_stands place (One s) ps k ks (placed ps ks) refl (h ks (and_parts (admits s k.tag) (fit ps (tags_of ks)) f).1)
wanted_stand place (Many s least) ps a h ks f =
    let tags : length (tags_of ks) - singles ps ≡ length ks - singles ps = ap (λ (i : ℕ). i - singles ps) (length-map ks (λ (q : Kid). q.tag)) in
    let n = length (tags_of ks) - singles ps in
    let tests = and_parts (nat_le (min least 1) n) _ f in
    let more = and_parts (list_all (admits s) (take n (tags_of ks))) (fit ps (drop n (tags_of ks))) tests.1 in
    let behind : fit ps (tags_of (drop (length ks - singles ps) ks)) ≡ true =
    ap (fit ps) (sym (drop-map (λ (q : Kid). q.tag) (length ks - singles ps) ks)) ∙ ap (λ (i : ℕ). fit ps (drop i (tags_of ks))) (sym tags) ∙ more.1 in
    many_stands place s least ps ks (placed ps (drop (length ks - singles ps) ks)) (h (drop (length ks - singles ps) ks) behind)
wanted_stand place (Whole u s least) ps a h ks f = absurd (both_ways false refl a)
wanted_stand place Keys ps a h ks f = absurd (both_ways false refl a)
wanted_stand place (Declared u) ps a h [] f = absurd (both_ways false refl f)
wanted_stand place (Declared u) ps a h (k ∷ ks) f = one_stands place (Declared u) ps k ks (placed ps ks) refl (h ks (and_parts (is_tag u k.tag) (fit ps (tags_of ks)) f).1)
wanted_stand (At w) Mark ps a h ks f = none_stands (At w) Mark (plain (Iri (word_iri w))) ps ks (placed ps ks) refl (h ks f)
wanted_stand Subject Mark ps a h ks f = absurd (both_ways false refl a)
wanted_stand Predicate Mark ps a h ks f = absurd (both_ways false refl a)
wanted_stand Object Mark ps a h ks f = absurd (both_ways false refl a)
wanted_stand place True ps a h ks f = none_stands place True (plain (Literal true_literal)) ps ks (placed ps ks) refl (h ks f)

pub parts_stand : (ps : List Part) → list_all (λ p. is_plain p.place p.want) ps ≡ true → (ks : List Kid) → fit ps (tags_of ks) ≡ true → StandLeast ps ks (placed ps ks)
unfolding fit placed
parts_stand [] a [] f = record { least = omega arith; places = refl }
parts_stand [] a (k ∷ ks) f = absurd (both_ways false refl f)
parts_stand (p ∷ ps) a ks f =
    let both = and_parts (is_plain p.place p.want) (list_all (λ q. is_plain q.place q.want) ps) a in
    wanted_stand p.place p.want ps both.0 (parts_stand ps both.1) ks f

-- What stands at a node is one triple each, and those below it.
arcs_least : (ps : List Part) (qs : List Placed) → list_all (λ p. at_node p.place) ps ≡ true → map (λ q. q.place) qs ≡ map (λ p. p.place) ps → length ps + placed_drawn qs ≤ arcs_drawn (arcs_of qs)
arcs_least [] [] a e = omega arith
arcs_least [] (q ∷ qs) a e = cc
arcs_least (p ∷ ps) [] a e = cc
arcs_least (p ∷ ps) (q ∷ qs) a e =
    let both = and_parts (at_node p.place) (list_all (λ r. at_node r.place) ps) a in
    let same : q.place ≡ p.place = cc in
    let rest = arcs_least ps qs both.1 (let e : map (λ r. r.place) qs ≡ map (λ r. r.place) ps = cc in e) in
    at_place q.place q qs refl (ap at_node same ∙ both.0) rest
  where
    at_place : (place : Place) (q : Placed) (qs : List Placed) → q.place ≡ place → at_node place ≡ true → length ps + placed_drawn qs ≤ arcs_drawn (arcs_of qs) → length (p ∷ ps) + placed_drawn (q ∷ qs) ≤ arcs_drawn (arcs_of (q ∷ qs))
    at_place (At w) q qs e h rest = rw e (omega (arith, rest))
    at_place Subject q qs e h rest = absurd (both_ways false refl h)
    at_place Predicate q qs e h rest = absurd (both_ways false refl h)
    at_place Object q qs e h rest = absurd (both_ways false refl h)

-- The rows.

record IsRowOf (rows : List Row) (t : Tag) (ts : List Tag) (r : Row) : Type 0 where
  among : Contains rows r
  tag : is_tag r.tag t ≡ true
  fits : fit r.parts ts ≡ true

row_is : (rows : List Row) (t : Tag) (ts : List Tag) (r : Row) → row_for rows t ts ≡ Some r → IsRowOf rows t ts r
unfolding row_for
row_is rows t ts r h =
    let kept = from_filter (λ q. is_tag q.tag t && fit q.parts ts) rows r (first_in (filter (λ q. is_tag q.tag t && fit q.parts ts) rows) r h) in
    let both = and_parts (is_tag r.tag t) (fit r.parts ts) kept.passes in
    record { among = kept.inside; tag = both.0; fits = both.1 }

are_plain : Row → Bool
are_plain r = list_all (λ p. is_plain p.place p.want) r.parts

are_at_node : Row → Bool
are_at_node r = list_all (λ p. at_node p.place) r.parts

nodes_plain : list_all (λ r. are_plain r && are_at_node r) node_rows ≡ true
unfolding node_rows are_plain are_at_node
nodes_plain = refl

-- a tree that is drawn by a row
pub node_least : (t : Tag) (ks : List Kid) (r : Row) → is_tag tag.FacetPair t ≡ false → row_for node_rows t (tags_of ks) ≡ Some r → length r.parts + (2 * (length ks - singles r.parts) + kids_drawn ks) ≤ drawn (node_form t ks)
unfolding are_plain are_at_node
node_least t ks r e h =
    let row = row_is node_rows t (tags_of ks) r h in
    let tests = and_parts (are_plain r) (are_at_node r) (passes (λ q. are_plain q && are_at_node q) node_rows r nodes_plain row.among) in
    let stand = parts_stand r.parts tests.0 ks row.fits in
    let arcs = arcs_least r.parts (placed r.parts ks) tests.1 stand.places in
    let least = stand.least in
    let same = ap drawn (row_form t ks r e h) in
    omega (arith, arcs, least, same)

-- Axioms.

abbrev is_end : Place → Bool
is_end (At w) = false
is_end Subject = true
is_end Predicate = false
is_end Object = true

abbrev are_ends : Site → List Part → Bool
are_ends (Node role) ps = list_all (λ p. at_node p.place) ps
are_ends (TypedBy w) (p ∷ []) = true
are_ends OtherType (p ∷ q ∷ []) = is_end p.place
are_ends (LinkedBy w) (p ∷ q ∷ []) = is_end p.place
are_ends site ps = false

axioms_stand : list_all (λ r. is_left_out r.tag || (are_plain r && are_ends r.site r.parts)) axiom_rows ≡ true
unfolding axiom_rows are_plain is_left_out number_of
axioms_stand = refl

between_least : (place : Place) (f g : Form) (iri : List ℕ) → is_end place ≡ true → drawn f + drawn g ≤ statement_drawn (between place f iri g)
between_least (At w) f g iri e = absurd (both_ways false refl e)
between_least Subject f g iri e = omega arith
between_least Predicate f g iri e = absurd (both_ways false refl e)
between_least Object f g iri e = omega arith

ends_least : (site : Site) (ps : List Part) (qs : List Placed) → are_ends site ps ≡ true → map (λ q. q.place) qs ≡ map (λ p. p.place) ps → placed_drawn qs ≤ statement_drawn (stated site qs)
ends_least (Node role) ps qs a e = let h = arcs_least ps qs a e in omega (arith, h)
ends_least (TypedBy w) (p ∷ []) (q ∷ []) a e = omega arith
ends_least OtherType (p ∷ r ∷ []) (q ∷ s ∷ []) a e =
    let same : q.place ≡ p.place = cc in
    let h = between_least q.place q.form s.form type_iri (ap is_end same ∙ a) in
    omega (arith, h)
ends_least (LinkedBy w) (p ∷ r ∷ []) (q ∷ s ∷ []) a e =
    let same : q.place ≡ p.place = cc in
    let h = between_least q.place q.form s.form (word_iri w) (ap is_end same ∙ a) in
    omega (arith, h)
ends_least site ps qs a e = cc

same_left : (t u : Tag) → is_tag t u ≡ true → is_left_out t ≡ is_left_out u
same_left t u e = ap is_left_out (same_tag t u e)

-- an axiom that is drawn by a row
pub stated_least : (t : Tag) (ks : List Kid) (r : Row) → is_left_out t ≡ false → row_for axiom_rows t (tags_of ks) ≡ Some r → 2 * (length ks - singles r.parts) + kids_drawn ks ≤ statement_drawn (stated r.site (placed r.parts ks))
unfolding are_plain
stated_least t ks r out h =
    let row = row_is axiom_rows t (tags_of ks) r h in
    elim (or_cases (is_left_out r.tag) (are_plain r && are_ends r.site r.parts) (passes (λ q. is_left_out q.tag || (are_plain q && are_ends q.site q.parts)) axiom_rows r axioms_stand row.among)) [
      | inl left ↦ absurd (both_ways (is_left_out t) out (sym (same_left r.tag t row.tag) ∙ left))
      | inr stands ↦
          let tests = and_parts (are_plain r) (are_ends r.site r.parts) stands in
          let stand = parts_stand r.parts tests.0 ks row.fits in
          let ends = ends_least r.site r.parts (placed r.parts ks) tests.1 stand.places in
          let least = stand.least in
          omega (arith, ends, least)
    ]
