-- The normal form of a normal form is that form.
use Rattle.std.proofs.Common.{◌≡◌, ◌≤◌, ◌+◌, arith, ℕ, zero, suc, Bool, true, false, ◌&&◌, cond, not, nat_lt, List, [], ◌∷◌, ◌++◌, length, map, filter, Contains, Option, None, Some, IsTrue, refl, sym, ap, ◌∙◌, subst}
use Rattle.std.specs.Prelude.{flat_map}
use Rattle.std.specs.declared.cmp.Ordering.{Ordering}
use Rattle.std.specs.declared.cmp.Ordering.TheVariants.{Less, Equal, Greater}
use Rattle.std.specs.List.{AllByRecursion}
use Rattle.std.specs.Option.{option_map}
use Rattle.std.proofs.lemmas.Bool.{le-ltb, ltb-false}
use Rattle.std.proofs.lemmas.List.{append-nil, length-map}
use Rattle.std.proofs.lemmas.List.Concat.{flat_map-cons}
use Rattle.std.proofs.lemmas.Option.{none-some, same_Some}
use Rattle.owl_doc.specs.Heads.{iri_in}
use Rattle.owl_list.specs.Ascending.{ascending, by_order, put}
use Rattle.owl_list.proofs.AscendingLaws.{all_from, all_in, all_later}
use Rattle.owl_tree.specs.declared.tag.Tag.{Tag}
use Rattle.owl_tree.specs.declared.tag.Tag.TheVariants as tag
use Rattle.owl_tree.specs.Canonical.{canonical, canonicals, arranged, arranged_from}
use Rattle.owl_tree.proofs.CanonicalLaws.{canonical_tag}
use Rattle.owl_tree.proofs.EquivalenceLaws.{canonicals_map}
use Rattle.owl_tree.specs.Ontologies.{IsAxiom, IsOntology, Ontology, canonical_list}
use Rattle.owl_tree.specs.Order.{tree_cmp}
use Rattle.owl_tree.specs.Rows.{admits, fits, is_tag, row_of, set_start}
use Rattle.owl_tree.specs.Shape.{FitsRow, IsShaped, AreShaped}
use Rattle.owl_tree.proofs.ShapeLaws.{canonical_shape}
use Rattle.owl_tree.specs.Tags.{number_of}
use Rattle.owl_tree.proofs.TreeLaws.{list_of_kids_of}
use Rattle.owl_tree.specs.Trees.{Tree, Kids, leaf, node, no_kids, kid, kids_in, kids_of, list_of, tag_of}
use Rattle.rdf_normal.proofs.DeclaredLaws.{tag_told, tidied_tag}
use Rattle.rdf_normal.proofs.NeedlessLaws.{all_pass, first_of, from_filter, not_false, not_true}
use Rattle.rdf_normal.specs.NormalForms.{annotation_of, are_equals, assertion_of, inverted, iri_at, is_about, is_needless, is_paired, is_same_iri, needed, needed_in, normal_form, only, over, own_assertions, pairs, pairs_in, settled, spread, spread_axioms, subject_in, tidied, tidieds, turned, turned_from, turned_kids, unsettled_annotations, unsettled_axioms}
use Rattle.rdf_normal.proofs.NormalFormLaws.{nothing_else, all_forms}
use Rattle.rdf_normal.proofs.TidiedLaws.{settled_again, settled_form, tidieds_map}
use Rattle.rdf_normal.specs.Tidied.{IsPlain}

pub plain_spread : (t : Tree) → IsPlain t → spread t ≡ t ∷ []
plain_spread t h =
    ap (λ (b : Bool). cond b (pairs_in (tag_of t) (kids_in t)) (turned t ∷ [])) h.paired ∙ ap (λ (o : Option (List Tree)). assertion_of t o ∷ []) h.turned

-- What keeps trees plain.

-- tags stay, kids get no more, and where they are no set each is kept
pub record KeepsKids (f : Tree → Tree) : Type 0 where
  pub tags : (t : Tree) → tag_of (f t) ≡ tag_of t
  pub fewer : (t : Tree) → length (kids_in (f t)) ≤ length (kids_in t)
  pub each : (t : Tree) → set_start (row_of (tag_of t)) ≡ None → is_tag tag.Notes (tag_of t) ≡ false → kids_in (f t) ≡ map f (kids_in t)

no_set_of_inverse : set_start (row_of tag.ObjectInverseOf) ≡ None
unfolding row_of
no_set_of_inverse = refl

inverse_no_notes : is_tag tag.Notes tag.ObjectInverseOf ≡ false
unfolding number_of
inverse_no_notes = refl

no_set_of_assertion : set_start (row_of tag.ObjectPropertyAssertion) ≡ None
unfolding row_of
no_set_of_assertion = refl

assertion_no_notes : is_tag tag.Notes tag.ObjectPropertyAssertion ≡ false
unfolding number_of
assertion_no_notes = refl

no_set_of_annotation : set_start (row_of tag.AnnotationAssertion) ≡ None
unfolding row_of
no_set_of_annotation = refl

annotation_no_notes : is_tag tag.Notes tag.AnnotationAssertion ≡ false
unfolding number_of
annotation_no_notes = refl

module _ (f : Tree → Tree) (keeps : KeepsKids f) where
  kids_at : (u : Tag) (t : Tree) → tag_of t ≡ u → set_start (row_of u) ≡ None → is_tag tag.Notes u ≡ false → kids_in (f t) ≡ map f (kids_in t)
  kids_at u t e g h = keeps.each t (ap (λ v. set_start (row_of v)) e ∙ g) (ap (is_tag tag.Notes) e ∙ h)

  only_none : (ts : List Tree) → only ts ≡ None → only (map f ts) ≡ None
  only_none [] e = refl
  only_none (a ∷ []) e = absurd (none-some a (sym e))
  only_none (a ∷ b ∷ ts) e = refl

  inverted_by : (b : Bool) (t : Tree) → is_tag tag.ObjectInverseOf (tag_of t) ≡ b → cond b (only (kids_in t)) None ≡ None → cond b (only (kids_in (f t))) None ≡ None
  inverted_by true t e h = ap only (kids_at tag.ObjectInverseOf t (tag_told tag.ObjectInverseOf (tag_of t) e) no_set_of_inverse inverse_no_notes) ∙ only_none (kids_in t) h
  inverted_by false t e h = refl

  inverted_none : (t : Tree) → inverted t ≡ None → inverted (f t) ≡ None
  inverted_none t h =
      ap (λ v. cond (is_tag tag.ObjectInverseOf v) (only (kids_in (f t))) None) (keeps.tags t) ∙ inverted_by (is_tag tag.ObjectInverseOf (tag_of t)) t refl h

  mapped_none : (notes from to : Tree) (o : Option Tree) → option_map (λ named. notes ∷ named ∷ to ∷ from ∷ []) o ≡ None → o ≡ None
  mapped_none notes from to None e = refl
  mapped_none notes from to (Some p) e = absurd (cc)

  turned_none : (ts : List Tree) → turned_kids ts ≡ None → turned_kids (map f ts) ≡ None
  turned_none [] e = refl
  turned_none (a ∷ []) e = refl
  turned_none (a ∷ b ∷ []) e = refl
  turned_none (a ∷ b ∷ c ∷ []) e = refl
  turned_none (a ∷ b ∷ c ∷ d ∷ []) e = ap (option_map (λ named. f a ∷ named ∷ f d ∷ f c ∷ [])) (inverted_none b (mapped_none a c d (inverted b) e))
  turned_none (a ∷ b ∷ c ∷ d ∷ g ∷ ts) e = refl

  turned_by : (b : Bool) (t : Tree) → is_tag tag.ObjectPropertyAssertion (tag_of t) ≡ b → cond b (turned_kids (kids_in t)) None ≡ None → cond b (turned_kids (kids_in (f t))) None ≡ None
  turned_by true t e h =
      ap turned_kids (kids_at tag.ObjectPropertyAssertion t (tag_told tag.ObjectPropertyAssertion (tag_of t) e) no_set_of_assertion assertion_no_notes) ∙ turned_none (kids_in t) h
  turned_by false t e h = refl

  turned_stays : (t : Tree) → turned_from t ≡ None → turned_from (f t) ≡ None
  turned_stays t h =
      ap (λ v. cond (is_tag tag.ObjectPropertyAssertion v) (turned_kids (kids_in (f t))) None) (keeps.tags t) ∙ turned_by (is_tag tag.ObjectPropertyAssertion (tag_of t)) t refl h

  short_still : (m n : ℕ) → m ≤ n → nat_lt 3 n ≡ false → nat_lt 3 m ≡ false
  short_still m n le e = let few = ltb-false 3 n e in le-ltb 3 m (omega arith)

  paired_by : (b : Bool) (m n : ℕ) → m ≤ n → (b && nat_lt 3 n) ≡ false → (b && nat_lt 3 m) ≡ false
  paired_by true m n le e = short_still m n le e
  paired_by false m n le e = refl

  paired_stays : (t : Tree) → is_paired t ≡ false → is_paired (f t) ≡ false
  paired_stays t h =
      ap (λ v. are_equals v && nat_lt 3 (length (kids_in (f t)))) (keeps.tags t) ∙ paired_by (are_equals (tag_of t)) (length (kids_in (f t))) (length (kids_in t)) (keeps.fewer t) h

  pub plain_stays : (t : Tree) → IsPlain t → IsPlain (f t)
  plain_stays t h = record { paired = paired_stays t h.paired; turned = turned_stays t h.turned }

-- Both forms keep kids.

put_length_by : (o : Ordering) (t u : Tree) (us rest : List Tree) → length rest ≤ length us + 1 → length (by_order o (t ∷ u ∷ us) (u ∷ us) (u ∷ rest)) ≤ length us + 2
put_length_by Less t u us rest h = omega arith
put_length_by Equal t u us rest h = omega arith
put_length_by Greater t u us rest h = omega arith

put_length : (t : Tree) (us : List Tree) → length (put tree_cmp t us) ≤ length us + 1
put_length t [] = omega arith
put_length t (u ∷ us) = let step = put_length_by (tree_cmp t u) t u us (put tree_cmp t us) (put_length t us) in omega arith

ascending_length : (ts : List Tree) → length (ascending tree_cmp ts) ≤ length ts
ascending_length [] = omega arith
ascending_length (t ∷ ts) = let step = put_length t (ascending tree_cmp ts) in let rest = ascending_length ts in omega arith

arranged_from_length : (n : ℕ) (ts : List Tree) → length (arranged_from n ts) ≤ length ts
arranged_from_length zero ts = ascending_length ts
arranged_from_length (suc n) [] = omega arith
arranged_from_length (suc n) (t ∷ ts) = let rest = arranged_from_length n ts in omega arith

arranged_length : (start : Option ℕ) (ts : List Tree) → length (arranged start ts) ≤ length ts
arranged_length None ts = omega arith
arranged_length (Some n) ts = arranged_from_length n ts

canonical_fewer : (t : Tree) → length (kids_in (canonical t)) ≤ length (kids_in t)
canonical_fewer (leaf u a) = omega arith
canonical_fewer (node u ks) =
    let start = set_start (row_of u) in
    let e = ap length (list_of_kids_of (arranged start (canonicals ks))) in
    let f = arranged_length start (canonicals ks) in
    let g = ap length (canonicals_map ks) ∙ length-map (list_of ks) canonical in
    omega arith

canonical_each : (t : Tree) → set_start (row_of (tag_of t)) ≡ None → is_tag tag.Notes (tag_of t) ≡ false → kids_in (canonical t) ≡ map canonical (kids_in t)
canonical_each (leaf u a) e f = refl
canonical_each (node u ks) e f =
    ap (λ (s : Option ℕ). list_of (kids_of (arranged s (canonicals ks)))) e ∙ list_of_kids_of (canonicals ks) ∙ canonicals_map ks

pub canonical_keeps : KeepsKids canonical
canonical_keeps = record { tags = canonical_tag; fewer = canonical_fewer; each = canonical_each }

filter_by : (b : Bool) (t : Tree) (ts us : List Tree) → length us ≤ length ts → length (cond b (t ∷ us) us) ≤ length ts + 1
filter_by true t ts us h = omega arith
filter_by false t ts us h = omega arith

filter_fewer : (test : Tree → Bool) (ts : List Tree) → length (filter test ts) ≤ length ts
filter_fewer test [] = omega arith
filter_fewer test (t ∷ ts) = let step = filter_by (test t) t ts (filter test ts) (filter_fewer test ts) in omega arith

needed_fewer : (b : Bool) (ts : List Tree) → length (cond b (needed ts) ts) ≤ length ts
needed_fewer true ts = filter_fewer (λ t. not (is_needless ts t)) ts
needed_fewer false ts = omega arith

tidied_fewer : (t : Tree) → length (kids_in (tidied t)) ≤ length (kids_in t)
tidied_fewer (leaf u a) = omega arith
tidied_fewer (node u ks) =
    let start = set_start (row_of u) in
    let e = ap length (list_of_kids_of (needed_in u (arranged start (tidieds ks)))) in
    let d = needed_fewer (is_tag tag.Notes u) (arranged start (tidieds ks)) in
    let f = arranged_length start (tidieds ks) in
    let g = ap length (tidieds_map ks) ∙ length-map (list_of ks) tidied in
    omega arith

tidied_each : (t : Tree) → set_start (row_of (tag_of t)) ≡ None → is_tag tag.Notes (tag_of t) ≡ false → kids_in (tidied t) ≡ map tidied (kids_in t)
tidied_each (leaf u a) e f = refl
tidied_each (node u ks) e f =
    list_of_kids_of (needed_in u (arranged (set_start (row_of u)) (tidieds ks)))
    ∙ ap (λ (b : Bool). cond b (needed (arranged (set_start (row_of u)) (tidieds ks))) (arranged (set_start (row_of u)) (tidieds ks))) f
    ∙ ap (λ (s : Option ℕ). arranged s (tidieds ks)) e
    ∙ tidieds_map ks

pub tidied_keeps : KeepsKids tidied
tidied_keeps = record { tags = tidied_tag; fewer = tidied_fewer; each = tidied_each }

-- What is spread is plain.

and_false : (b : Bool) → (b && false) ≡ false
and_false true = refl
and_false false = refl

nothing_by : (b : Bool) (o : Option (List Tree)) → o ≡ None → cond b o None ≡ None
nothing_by true o e = e
nothing_by false o e = refl

pair_plain : (t : Tag) (notes a b : Tree) → IsPlain (over t (notes ∷ a ∷ b ∷ []))
pair_plain t notes a b = record { paired = and_false (are_equals t); turned = nothing_by (is_tag tag.ObjectPropertyAssertion t) (turned_kids (notes ∷ a ∷ b ∷ [])) refl }

pairs_plain : (t : Tag) (notes : Tree) (ts : List Tree) → AllByRecursion IsPlain (pairs t notes ts)
pairs_plain t notes [] = tt
pairs_plain t notes (a ∷ []) = tt
pairs_plain t notes (a ∷ b ∷ ts) = (pair_plain t notes a b, pairs_plain t notes (b ∷ ts))

pairs_in_plain : (t : Tag) (ts : List Tree) → AllByRecursion IsPlain (pairs_in t ts)
pairs_in_plain t [] = tt
pairs_in_plain t (notes ∷ ts) = pairs_plain t notes ts

property_is_no_inverse : is_tag tag.ObjectInverseOf tag.ObjectProperty ≡ false
unfolding number_of
property_is_no_inverse = refl

named_property : (p : Tag) → is_tag tag.ObjectProperty p ≡ true → is_tag tag.ObjectInverseOf p ≡ false
named_property p e = ap (is_tag tag.ObjectInverseOf) (tag_told tag.ObjectProperty p e) ∙ property_is_no_inverse

-- under an inverse stands a named property
inverse_kid : (ks : Kids) (p : Tree) → only (list_of ks) ≡ Some p → IsTrue (fits (row_of tag.ObjectInverseOf) (map tag_of (list_of ks))) → is_tag tag.ObjectProperty (tag_of p) ≡ true
unfolding row_of admits
inverse_kid no_kids p e h = absurd (none-some p e)
inverse_kid (kid q no_kids) p e h = ap (λ (r : Tree). is_tag tag.ObjectProperty (tag_of r)) (sym (same_Some q p e)) ∙ first_of (is_tag tag.ObjectProperty (tag_of q)) true h
inverse_kid (kid q (kid r ks)) p e h = absurd (none-some p e)

no_inverse_by : (b : Bool) (p : Tree) → cond b None None ≡ Some p → ⊥
no_inverse_by true p e = none-some p e
no_inverse_by false p e = none-some p e

inverse_by : (b : Bool) (u : Tag) (ks : Kids) (p : Tree) → is_tag tag.ObjectInverseOf u ≡ b → cond b (only (list_of ks)) None ≡ Some p → FitsRow u (list_of ks) → is_tag tag.ObjectProperty (tag_of p) ≡ true
inverse_by true u ks p e f h =
    let same = tag_told tag.ObjectInverseOf u e in
    inverse_kid ks p f (subst (λ (v : Tag). IsTrue (fits (row_of v) (map tag_of (list_of ks)))) same h.row)
inverse_by false u ks p e f h = absurd (none-some p f)

pub inverted_property : (t p : Tree) → IsShaped t → inverted t ≡ Some p → is_tag tag.ObjectProperty (tag_of p) ≡ true
inverted_property (leaf u a) p h e = absurd (no_inverse_by (is_tag tag.ObjectInverseOf u) p e)
inverted_property (node u ks) p h e = inverse_by (is_tag tag.ObjectInverseOf u) u ks p refl e h.0

inverted_named : (t p : Tree) → IsShaped t → inverted t ≡ Some p → is_tag tag.ObjectInverseOf (tag_of p) ≡ false
inverted_named t p h e = named_property (tag_of p) (inverted_property t p h e)

not_inverted : (t : Tree) → is_tag tag.ObjectInverseOf (tag_of t) ≡ false → inverted t ≡ None
not_inverted t e = ap (λ (b : Bool). cond b (only (kids_in t)) None) e

assertion_plain : (a b c d : Tree) → inverted b ≡ None → IsPlain (over tag.ObjectPropertyAssertion (a ∷ b ∷ c ∷ d ∷ []))
unfolding number_of
assertion_plain a b c d e = record { paired = refl; turned = ap (option_map (λ named. a ∷ named ∷ d ∷ c ∷ [])) e }

named_by : (a c d : Tree) (o : Option Tree) (ks : List Tree) → ((p : Tree) → o ≡ Some p → inverted p ≡ None) → option_map (λ named. a ∷ named ∷ d ∷ c ∷ []) o ≡ Some ks → IsPlain (over tag.ObjectPropertyAssertion ks)
named_by a c d None ks h e = absurd (none-some ks e)
named_by a c d (Some p) ks h e = subst (λ (xs : List Tree). IsPlain (over tag.ObjectPropertyAssertion xs)) (same_Some (a ∷ p ∷ d ∷ c ∷ []) ks e) (assertion_plain a p d c (h p refl))

turned_kids_plain : (ts ks : List Tree) → AllByRecursion IsShaped ts → turned_kids ts ≡ Some ks → IsPlain (over tag.ObjectPropertyAssertion ks)
turned_kids_plain [] ks h e = absurd (none-some ks e)
turned_kids_plain (a ∷ []) ks h e = absurd (none-some ks e)
turned_kids_plain (a ∷ b ∷ []) ks h e = absurd (none-some ks e)
turned_kids_plain (a ∷ b ∷ c ∷ []) ks h e = absurd (none-some ks e)
turned_kids_plain (a ∷ b ∷ c ∷ d ∷ []) ks h e = named_by a c d (inverted b) ks (λ p f. not_inverted p (inverted_named b p h.1.0 f)) e
turned_kids_plain (a ∷ b ∷ c ∷ d ∷ g ∷ ts) ks h e = absurd (none-some ks e)

kids_shaped : (ks : Kids) → AreShaped ks → AllByRecursion IsShaped (list_of ks)
kids_shaped no_kids h = tt
kids_shaped (kid t ks) h = (h.0, kids_shaped ks h.1)

all_shaped : (t : Tree) → IsShaped t → AllByRecursion IsShaped (kids_in t)
all_shaped (leaf u a) h = tt
all_shaped (node u ks) h = kids_shaped ks h.1

some_by : (b : Bool) (o : Option (List Tree)) (ks : List Tree) → cond b o None ≡ Some ks → o ≡ Some ks
some_by true o ks e = e
some_by false o ks e = absurd (none-some ks e)

turned_plain_by : (t : Tree) (o : Option (List Tree)) → turned_from t ≡ o → IsShaped t → is_paired t ≡ false → IsPlain (assertion_of t o)
turned_plain_by t None e h f = record { paired = f; turned = e }
turned_plain_by t (Some ks) e h f = turned_kids_plain (kids_in t) ks (all_shaped t h) (some_by (is_tag tag.ObjectPropertyAssertion (tag_of t)) (turned_kids (kids_in t)) ks e)

spread_plain_by : (b : Bool) (t : Tree) → is_paired t ≡ b → IsShaped t → AllByRecursion IsPlain (cond b (pairs_in (tag_of t) (kids_in t)) (turned t ∷ []))
spread_plain_by true t e h = pairs_in_plain (tag_of t) (kids_in t)
spread_plain_by false t e h = (turned_plain_by t (turned_from t) refl h e, tt)

spread_plain : (t : Tree) → IsShaped t → AllByRecursion IsPlain (spread t)
spread_plain t h = spread_plain_by (is_paired t) t refl h

all_joined : (ts us : List Tree) → AllByRecursion IsPlain ts → AllByRecursion IsPlain us → AllByRecursion IsPlain (ts ++ us)
all_joined [] us h k = k
all_joined (t ∷ ts) us h k = (h.0, all_joined ts us h.1 k)

flat_plain : (ts : List Tree) → AllByRecursion IsShaped ts → AllByRecursion IsPlain (flat_map spread ts)
flat_plain [] h = tt
flat_plain (t ∷ ts) h = subst (AllByRecursion IsPlain) (sym (flat_map-cons spread t ts)) (all_joined (spread t) (flat_map spread ts) (spread_plain t h.0) (flat_plain ts h.1))

pub normal_plain : (o : Ontology) → AllByRecursion IsShaped o.axioms → AllByRecursion IsPlain (normal_form o).axioms
normal_plain o h =
    let shaped = all_forms IsShaped canonical (λ t. (canonical_shape t).0) o.axioms h in
    let spread_ones = all_forms IsPlain canonical (plain_stays canonical canonical_keeps) (flat_map spread (canonical_list o.axioms)) (flat_plain (canonical_list o.axioms) shaped) in
    all_from IsPlain (normal_form o).axioms
    (λ u m.
    let t = nothing_else (unsettled_axioms o) u m in
    let p = from_filter (λ v. not (is_about (iri_in o.head.name) v)) (spread_axioms o) t.tree t.inside in
    subst IsPlain t.same (plain_stays tidied tidied_keeps t.tree (all_in IsPlain (spread_axioms o) t.tree spread_ones p.0)))

pub flat_same : (ts : List Tree) → AllByRecursion IsPlain ts → flat_map spread ts ≡ ts
flat_same [] h = refl
flat_same (t ∷ ts) h =
    flat_map-cons spread t ts ∙ ap (λ (us : List Tree). us ++ flat_map spread ts) (plain_spread t h.0) ∙ ap (λ (us : List Tree). t ∷ us) (flat_same ts h.1)

-- What an axiom is about.

iri_stays : (t : Tree) → iri_at (tidied t) ≡ iri_at t
iri_stays (leaf u a) = refl
iri_stays (node u ks) = refl

subject_stays : (ts : List Tree) → subject_in (map tidied ts) ≡ subject_in ts
subject_stays [] = refl
subject_stays (a ∷ []) = refl
subject_stays (a ∷ b ∷ []) = refl
subject_stays (a ∷ b ∷ c ∷ []) = refl
subject_stays (a ∷ b ∷ c ∷ d ∷ []) = iri_stays c
subject_stays (a ∷ b ∷ c ∷ d ∷ e ∷ ts) = refl

about_by : (b : Bool) (name : Option (List ℕ)) (t : Tree) → is_tag tag.AnnotationAssertion (tag_of t) ≡ b → (b && is_same_iri name (subject_in (kids_in (tidied t)))) ≡ (b && is_same_iri name (subject_in (kids_in t)))
about_by true name t e =
    let same = tag_told tag.AnnotationAssertion (tag_of t) e in
    let kids = tidied_each t (ap (λ v. set_start (row_of v)) same ∙ no_set_of_annotation) (ap (is_tag tag.Notes) same ∙ annotation_no_notes) in
    ap (is_same_iri name) (ap subject_in kids ∙ subject_stays (kids_in t))
about_by false name t e = refl

about_stays : (name : Option (List ℕ)) (t : Tree) → is_about name (tidied t) ≡ is_about name t
about_stays name t =
    ap (λ v. is_tag tag.AnnotationAssertion v && is_same_iri name (subject_in (kids_in (tidied t)))) (tidied_tag t) ∙ about_by (is_tag tag.AnnotationAssertion (tag_of t)) name t refl

pub normal_not_about : (o : Ontology) (u : Tree) → Contains (normal_form o).axioms u → is_about (iri_in o.head.name) u ≡ false
normal_not_about o u m =
    let t = nothing_else (unsettled_axioms o) u m in
    let p = from_filter (λ v. not (is_about (iri_in o.head.name) v)) (spread_axioms o) t.tree t.inside in
    ap (is_about (iri_in o.head.name)) (sym t.same) ∙ about_stays (iri_in o.head.name) t.tree ∙ not_true (is_about (iri_in o.head.name) t.tree) p.1

none_by : (b : Bool) (t : Tree) (us : List Tree) → b ≡ false → us ≡ [] → cond b (t ∷ us) us ≡ []
none_by true t us e f = cc
none_by false t us e f = f

pub none_pass : (test : Tree → Bool) (ts : List Tree) → AllByRecursion (λ t. test t ≡ false) ts → filter test ts ≡ []
none_pass test [] h = refl
none_pass test (t ∷ ts) h = none_by (test t) t (filter test ts) h.0 (none_pass test ts h.1)

spread_again : (o : Ontology) → AllByRecursion IsShaped o.axioms → spread_axioms (normal_form o) ≡ (normal_form o).axioms
spread_again o h =
    let form : canonical_list (normal_form o).axioms ≡ (normal_form o).axioms = settled_form (unsettled_axioms o) in
    ap (λ (ts : List Tree). canonical_list (flat_map spread ts)) form ∙ ap canonical_list (flat_same (normal_form o).axioms (normal_plain o h)) ∙ form

shaped_axioms : (o : Ontology) → IsOntology o → AllByRecursion IsShaped o.axioms
shaped_axioms o h = all_later IsAxiom IsShaped (λ t k. k.shaped) o.axioms h.axioms

-- the normal form of a normal form is that form
pub normal_again : (o : Ontology) → IsOntology o → normal_form (normal_form o) ≡ normal_form o
normal_again o ontology =
    let n : Ontology = normal_form o in
    let name : Option (List ℕ) = iri_in o.head.name in
    let spread_same = spread_again o (shaped_axioms o ontology) in
    let others : unsettled_axioms n ≡ n.axioms =
    ap (filter (λ t. not (is_about name t))) spread_same ∙ all_pass (λ t. not (is_about name t)) n.axioms (λ u m. not_false (is_about name u) (normal_not_about o u m)) in
    let none : own_assertions n ≡ [] = ap (filter (is_about name)) spread_same ∙ none_pass (is_about name) n.axioms (all_from (λ t. is_about name t ≡ false) n.axioms (normal_not_about o)) in
    let notes : unsettled_annotations n ≡ n.annotations =
    ap (λ (ts : List Tree). canonical_list (n.annotations ++ map annotation_of ts)) none ∙ ap canonical_list (append-nil n.annotations) ∙ settled_form (unsettled_annotations o) in
    let annotations : settled (unsettled_annotations n) ≡ n.annotations = ap settled notes ∙ settled_again (unsettled_annotations o) in
    let axioms : settled (unsettled_axioms n) ≡ n.axioms = ap settled others ∙ settled_again (unsettled_axioms o) in
    λ i. record { head = o.head; annotations = annotations i; axioms = axioms i }
