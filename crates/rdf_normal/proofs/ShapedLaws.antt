-- The normal form of an ontology is an ontology.
use Rattle.std.proofs.Common.{◌≡◌, ◌⊎◌, inl, inr, arith, ℕ, zero, suc, Bool, true, false, ◌&&◌, ◌||◌, cond, not, nat_le, nat_lt, List, [], ◌∷◌, drop, length, map, filter, Contains, Option, None, Some, IsTrue, refl, sym, ap, ◌∙◌, subst}
use Rattle.std.specs.List.{AllByRecursion, list_all}
use Rattle.std.specs.Option.{option_map}
use Rattle.std.proofs.lemmas.Bool.{le-leb}
use Rattle.std.proofs.lemmas.Option.{none-some, same_Some}
use Rattle.owl_list.specs.Ascending.{ascending}
use Rattle.owl_list.proofs.AscendingLaws.{all_from, all_in, all_later, all_map, ascending_holds, ascending_same, in_map, same_from_equal, same_map, same_trans}
use Rattle.owl_tree.specs.declared.row.Sort.{Sort}
use Rattle.owl_tree.specs.declared.row.Sort.TheVariants as sort
use Rattle.owl_tree.specs.declared.row.Rest.TheVariants.{Set}
use Rattle.owl_tree.specs.declared.atom.Atom.{Atom}
use Rattle.owl_tree.specs.declared.tag.Tag.{Tag}
use Rattle.owl_tree.specs.declared.tag.Tag.TheVariants as tag
use Rattle.owl_tree.specs.Canonical.{canonical, canonicals, arranged, arranged_from}
use Rattle.owl_tree.proofs.CanonicalLaws.{arranged_holds, canonical_tag, node_of_forms}
use Rattle.owl_tree.specs.Equivalence.{IsEquivalent}
use Rattle.owl_tree.proofs.EquivalenceLaws.{canonicals_map, equivalent_is_equal_form, equivalent_refl}
use Rattle.owl_tree.specs.Ontologies.{IsAnnotation, IsAxiom, IsOntology, Ontology}
use Rattle.owl_tree.specs.Order.{tree_cmp}
use Rattle.owl_tree.specs.OrderLaws.{only_equal_trees_tie, trees_total}
use Rattle.owl_tree.specs.Rows.{Node, admits, fits, is_tag, row_of, set_start}
use Rattle.owl_tree.specs.Shape.{AreAtMostTwo, AreShaped, FitsRow, HasKeyProperty, IsShaped}
use Rattle.owl_tree.proofs.ShapeLaws.{canonical_shape}
use Rattle.owl_tree.specs.Tags.{is_axiom, number_of}
use Rattle.owl_tree.proofs.TreeLaws.{list_of_kids_of}
use Rattle.owl_tree.specs.Trees.{Tree, Kids, leaf, node, no_kids, kid, kids_in, kids_of, list_of, tag_of}
use Rattle.rdf_normal.proofs.DeclaredLaws.{spread_tag, tag_told, tidied_tag}
use Rattle.rdf_normal.proofs.NeedlessLaws.{both_true, first_of, from_filter, second_of}
use Rattle.rdf_normal.specs.NormalForms.{annotation_of, are_equals, asserted, assertion_of, inverted, is_about, is_needless, is_paired, is_same_iri, needed, needed_in, normal_form, only, over, pairs, pairs_in, spread, subject_in, tidied, tidieds, turned, turned_from, turned_kids}
use Rattle.rdf_normal.proofs.NormalFormLaws.{IsLasting, annotations_last, axioms_last}
use Rattle.rdf_normal.proofs.AgainLaws.{inverted_property}
use Rattle.rdf_normal.proofs.TidiedLaws.{tidied_tidy, tidieds_of, tidieds_map}

-- A canonical form is tidied to the same tree.

module _ (f g : Tree → Tree) where
  mapped : (xs : List Tree) → AllByRecursion (λ x. f (g x) ≡ f x) xs → map f (map g xs) ≡ map f xs
  mapped [] h = refl
  mapped (x ∷ xs) h = let first = h.0 in let rest = mapped xs h.1 in cc

  through_from : (n : ℕ) (xs : List Tree) → AllByRecursion (λ x. f (g x) ≡ f x) xs → arranged_from n (map f (arranged_from n (map g xs))) ≡ arranged_from n (map f xs)
  through_from zero xs h =
      ascending_same tree_cmp trees_total only_equal_trees_tie (map f (ascending tree_cmp (map g xs))) (map f xs)
      (same_trans (map f (ascending tree_cmp (map g xs))) (map f (map g xs)) (map f xs)
      (same_map f (ascending tree_cmp (map g xs)) (map g xs) (ascending_holds tree_cmp trees_total only_equal_trees_tie (map g xs)))
      (same_from_equal (map f (map g xs)) (map f xs) (mapped xs h)))
  through_from (suc n) [] h = refl
  through_from (suc n) (x ∷ xs) h = let first = h.0 in let rest = through_from n xs h.1 in cc

  through : (start : Option ℕ) (xs : List Tree) → AllByRecursion (λ x. f (g x) ≡ f x) xs → arranged start (map f (arranged start (map g xs))) ≡ arranged start (map f xs)
  through None xs h = mapped xs h
  through (Some n) xs h = through_from n xs h

mutual
  pub tidied_form : (t : Tree) → tidied (canonical t) ≡ tidied t
  tidied_form (leaf u a) = refl
  tidied_form (node u ks) =
      let start = set_start (row_of u) in
      ap (λ (xs : List Tree). over u (needed_in u xs))
      (ap (arranged start) (tidieds_of (arranged start (canonicals ks)) ∙ ap (λ (xs : List Tree). map tidied (arranged start xs)) (canonicals_map ks))
      ∙ through tidied canonical start (list_of ks) (kids_form ks)
      ∙ ap (arranged start) (sym (tidieds_map ks)))

  kids_form : (ks : Kids) → AllByRecursion (λ x. tidied (canonical x) ≡ tidied x) (list_of ks)
  kids_form no_kids = tt
  kids_form (kid t ks) = (tidied_form t, kids_form ks)

tidied_alike : (a b : Tree) → IsEquivalent a b → IsEquivalent (tidied a) (tidied b)
tidied_alike a b h =
    let e : tidied a ≡ tidied b = sym (tidied_form a) ∙ ap tidied ((equivalent_is_equal_form a b).0 h) ∙ tidied_form b in
    subst (IsEquivalent (tidied a)) e (equivalent_refl (tidied a))

-- Tidied trees have their shape.

tags_stay : (ts : List Tree) → map tag_of (map tidied ts) ≡ map tag_of ts
tags_stay [] = refl
tags_stay (t ∷ ts) = let first = tidied_tag t in let rest = tags_stay ts in cc

drop_map : (ts : List Tree) → drop 1 (map tidied ts) ≡ map tidied (drop 1 ts)
drop_map [] = refl
drop_map (t ∷ ts) = refl

either_alike : (one other t : Tree) → IsEquivalent t one ⊎ IsEquivalent t other → IsEquivalent (tidied t) (tidied one) ⊎ IsEquivalent (tidied t) (tidied other)
either_alike one other t (inl h) = inl (tidied_alike t one h)
either_alike one other t (inr h) = inr (tidied_alike t other h)

two_still : (ts : List Tree) → AreAtMostTwo (drop 1 ts) → AreAtMostTwo (drop 1 (map tidied ts))
two_still ts h = record {
  one = tidied h.one;
  other = tidied h.other;
  each =
      subst (AllByRecursion (λ t. IsEquivalent t (tidied h.one) ⊎ IsEquivalent t (tidied h.other))) (sym (drop_map ts))
      (all_map tidied (λ t. IsEquivalent t (tidied h.one) ⊎ IsEquivalent t (tidied h.other)) (drop 1 ts)
      (all_later (λ t. IsEquivalent t h.one ⊎ IsEquivalent t h.other) (λ t. IsEquivalent (tidied t) (tidied h.one) ⊎ IsEquivalent (tidied t) (tidied h.other)) (either_alike h.one h.other) (drop 1 ts) h.each));
}

object_keys_no_notes : is_tag tag.Notes tag.ObjectKeys ≡ false
unfolding number_of
object_keys_no_notes = refl

data_keys_no_notes : is_tag tag.Notes tag.DataKeys ≡ false
unfolding number_of
data_keys_no_notes = refl

group_no_notes : (t : Tag) → (t ≡ tag.ObjectKeys) ⊎ (t ≡ tag.DataKeys) → is_tag tag.Notes t ≡ false
group_no_notes t (inl e) = ap (is_tag tag.Notes) e ∙ object_keys_no_notes
group_no_notes t (inr e) = ap (is_tag tag.Notes) e ∙ data_keys_no_notes

member_stays : (g p : Tree) → is_tag tag.Notes (tag_of g) ≡ false → Contains (kids_in g) p → Contains (kids_in (tidied g)) (tidied p)
member_stays (leaf u a) p e m = in_map tidied [] p m
member_stays (node u ks) p e m =
    let xs : List Tree = arranged (set_start (row_of u)) (tidieds ks) in
    let kids : kids_in (tidied (node u ks)) ≡ xs = list_of_kids_of (needed_in u xs) ∙ ap (λ (b : Bool). cond b (needed xs) xs) e in
    subst (λ (ts : List Tree). Contains ts (tidied p)) (sym kids)
    ((arranged_holds (set_start (row_of u)) (tidieds ks) (tidied p)).1 (subst (λ (ts : List Tree). Contains ts (tidied p)) (sym (tidieds_map ks)) (in_map tidied (list_of ks) p m)))

key_still : (ts : List Tree) → HasKeyProperty ts → HasKeyProperty (map tidied ts)
key_still ts h = record {
  group = tidied h.group;
  inside = in_map tidied ts h.group h.inside;
  is_group = subst (λ (u : Tag). (u ≡ tag.ObjectKeys) ⊎ (u ≡ tag.DataKeys)) (sym (tidied_tag h.group)) h.is_group;
  property = tidied h.property;
  member = member_stays h.group h.property (group_no_notes (tag_of h.group) h.is_group) h.member;
}

row_still : (t : Tag) (ts : List Tree) → FitsRow t ts → FitsRow t (map tidied ts)
row_still t ts h = record {
  row = ap (fits (row_of t)) (tags_stay ts) ∙ h.row;
  inverses = λ e. two_still ts (h.inverses e);
  keys = λ e. key_still ts (h.keys e);
}

each_shaped : (ts : List Tree) → AllByRecursion IsShaped ts → AreShaped (kids_of ts)
each_shaped [] h = tt
each_shaped (t ∷ ts) h = (h.0, each_shaped ts h.1)

shaped_each : (ks : Kids) → AreShaped ks → AllByRecursion IsShaped (list_of ks)
shaped_each no_kids h = tt
shaped_each (kid t ks) h = (h.0, shaped_each ks h.1)

pub shaped_over : (t : Tag) (ts : List Tree) → FitsRow t ts → AllByRecursion IsShaped ts → IsShaped (over t ts)
shaped_over t ts h k = (subst (FitsRow t) (sym (list_of_kids_of ts)) h, each_shaped ts k)

row_over : (t : Tag) (ts : List Tree) → IsShaped (over t ts) → FitsRow t ts
row_over t ts h = subst (FitsRow t) (list_of_kids_of ts) h.0

kids_over : (t : Tag) (ts : List Tree) → IsShaped (over t ts) → AllByRecursion IsShaped ts
kids_over t ts h = subst (AllByRecursion IsShaped) (list_of_kids_of ts) (shaped_each (kids_of ts) h.1)

-- some annotations are annotations
all_tags_by : (b : Bool) (test : Tag → Bool) (t : Tree) (us : List Tree) → test (tag_of t) ≡ true → list_all test (map tag_of us) ≡ true → list_all test (map tag_of (cond b (t ∷ us) us)) ≡ true
all_tags_by true test t us e f = both_true (test (tag_of t)) (list_all test (map tag_of us)) e f
all_tags_by false test t us e f = f

all_tags_kept : (test : Tag → Bool) (p : Tree → Bool) (ts : List Tree) → list_all test (map tag_of ts) ≡ true → list_all test (map tag_of (filter p ts)) ≡ true
all_tags_kept test p [] e = e
all_tags_kept test p (t ∷ ts) e =
    all_tags_by (p t) test t (filter p ts) (first_of (test (tag_of t)) (list_all test (map tag_of ts)) e) (all_tags_kept test p ts (second_of (test (tag_of t)) (list_all test (map tag_of ts)) e))

fewer_notes : (p : Tree → Bool) (ts : List Tree) → IsTrue (fits (row_of tag.Notes) (map tag_of ts)) → IsTrue (fits (row_of tag.Notes) (map tag_of (filter p ts)))
unfolding row_of
fewer_notes p ts h =
    both_true (nat_le 0 (length (map tag_of (filter p ts)))) (list_all (admits sort.Annotation) (map tag_of (filter p ts))) (le-leb 0 (length (map tag_of (filter p ts))) (omega arith))
    (all_tags_kept (admits sort.Annotation) p ts (second_of (nat_le 0 (length (map tag_of ts))) (list_all (admits sort.Annotation) (map tag_of ts)) h))

not_inverses : is_tag tag.Notes tag.InverseObjectProperties ≡ false
unfolding number_of
not_inverses = refl

not_key : is_tag tag.Notes tag.HasKey ≡ false
unfolding number_of
not_key = refl

notes_are : is_tag tag.Notes tag.Notes ≡ true
unfolding number_of
notes_are = refl

other_than_notes : (t : Tag) → is_tag tag.Notes t ≡ false → tag.Notes ≡ t → ⊥
other_than_notes t e f = let same = ap (is_tag tag.Notes) f in let yes = notes_are in cc

notes_row : (p : Tree → Bool) (ts : List Tree) → FitsRow tag.Notes ts → FitsRow tag.Notes (filter p ts)
notes_row p ts h = record {
  row = fewer_notes p ts h.row;
  inverses = λ e. absurd (other_than_notes tag.InverseObjectProperties not_inverses e);
  keys = λ e. absurd (other_than_notes tag.HasKey not_key e);
}

needed_shaped : (ts : List Tree) → IsShaped (over tag.Notes ts) → IsShaped (over tag.Notes (needed ts))
needed_shaped ts h =
    let test : Tree → Bool = λ t. not (is_needless ts t) in
    shaped_over tag.Notes (needed ts) (notes_row test ts (row_over tag.Notes ts h)) (all_from IsShaped (needed ts) (λ t m. all_in IsShaped ts t (kids_over tag.Notes ts h) (from_filter test ts t m).0))

shaped_by : (b : Bool) (t : Tag) (ts : List Tree) → is_tag tag.Notes t ≡ b → IsShaped (over t ts) → IsShaped (over t (cond b (needed ts) ts))
shaped_by true t ts e h =
    let same = tag_told tag.Notes t e in
    subst (λ (u : Tag). IsShaped (over u (needed ts))) (sym same) (needed_shaped ts (subst (λ (u : Tag). IsShaped (over u ts)) same h))
shaped_by false t ts e h = h

all_tidy : (ts : List Tree) → map canonical (map tidied ts) ≡ map tidied ts
all_tidy [] = refl
all_tidy (t ∷ ts) = let first = (tidied_tidy t).canonical in let rest = all_tidy ts in cc

mutual
  pub tidied_shaped : (t : Tree) → IsShaped t → IsShaped (tidied t)
  tidied_shaped (leaf u a) h = h
  tidied_shaped (node u ks) h =
      let xs : List Tree = map tidied (list_of ks) in
      let plain : IsShaped (over u xs) = shaped_over u xs (row_still u (list_of ks) h.0) (tidieds_shaped ks h.1) in
      let start = set_start (row_of u) in
      let set : IsShaped (over u (arranged start xs)) = subst IsShaped (node_of_forms u xs (all_tidy (list_of ks))) ((canonical_shape (over u xs)).0 plain) in
      subst (λ (ys : List Tree). IsShaped (over u (needed_in u (arranged start ys)))) (sym (tidieds_map ks)) (shaped_by (is_tag tag.Notes u) u (arranged start xs) refl set)

  tidieds_shaped : (ks : Kids) → AreShaped ks → AllByRecursion IsShaped (map tidied (list_of ks))
  tidieds_shaped no_kids h = tt
  tidieds_shaped (kid t ks) h = (tidied_shaped t h.0, tidieds_shaped ks h.1)

-- What is spread has its shape.

equals_row : (u : Tag) → are_equals u ≡ true → (s : Sort) × (row_of u ≡ Node (sort.Notes ∷ []) (Set s 2))
unfolding number_of row_of
equals_row tag.EquivalentClasses e = (sort.ClassExpression, refl)
equals_row tag.EquivalentObjectProperties e = (sort.ObjectPropertyExpression, refl)
equals_row tag.EquivalentDataProperties e = (sort.DataPropertyExpression, refl)
equals_row tag.SameIndividual e = (sort.Individual, refl)
equals_row _ e = absurd (cc)

inverses_no_equals : are_equals tag.InverseObjectProperties ≡ false
unfolding number_of
inverses_no_equals = refl

key_no_equals : are_equals tag.HasKey ≡ false
unfolding number_of
key_no_equals = refl

other_than_equals : (t u : Tag) → are_equals t ≡ true → are_equals u ≡ false → t ≡ u → ⊥
other_than_equals t u e f g = let same = ap are_equals g in cc

pair_fits : (s : Sort) (n a b : Tag) → admits sort.Notes n ≡ true → admits s a ≡ true → admits s b ≡ true → fits (Node (sort.Notes ∷ []) (Set s 2)) (n ∷ a ∷ b ∷ []) ≡ true
pair_fits s n a b e f g = both_true (admits sort.Notes n) (admits s a && (admits s b && true)) e (both_true (admits s a) (admits s b && true) f (both_true (admits s b) true g refl))

pairs_shaped : (u : Tag) (s : Sort) → are_equals u ≡ true → row_of u ≡ Node (sort.Notes ∷ []) (Set s 2) → (notes : Tree) (ts : List Tree) → IsShaped notes → admits sort.Notes (tag_of notes) ≡ true → AllByRecursion IsShaped ts → list_all (admits s) (map tag_of ts) ≡ true → AllByRecursion IsShaped (pairs u notes ts)
pairs_shaped u s eq row notes [] n an h all = tt
pairs_shaped u s eq row notes (a ∷ []) n an h all = tt
pairs_shaped u s eq row notes (a ∷ b ∷ ts) n an h all =
    let first = first_of (admits s (tag_of a)) (list_all (admits s) (map tag_of (b ∷ ts))) all in
    let rest = second_of (admits s (tag_of a)) (list_all (admits s) (map tag_of (b ∷ ts))) all in
    let second = first_of (admits s (tag_of b)) (list_all (admits s) (map tag_of ts)) rest in (
      shaped_over u (notes ∷ a ∷ b ∷ [])
          (record {
            row = ap (λ r. fits r (tag_of notes ∷ tag_of a ∷ tag_of b ∷ [])) row ∙ pair_fits s (tag_of notes) (tag_of a) (tag_of b) an first second;
            inverses = λ e. absurd (other_than_equals u tag.InverseObjectProperties eq inverses_no_equals e);
            keys = λ e. absurd (other_than_equals u tag.HasKey eq key_no_equals e);
          })
          (n, (h.0, (h.1.0, tt))),
      pairs_shaped u s eq row notes (b ∷ ts) n an h.1 rest,
    )

pairs_in_shaped : (u : Tag) (ts : List Tree) → are_equals u ≡ true → FitsRow u ts → AllByRecursion IsShaped ts → AllByRecursion IsShaped (pairs_in u ts)
pairs_in_shaped u [] eq row h = tt
pairs_in_shaped u (notes ∷ ts) eq row h =
    let s = equals_row u eq in
    let all : fits (Node (sort.Notes ∷ []) (Set s.0 2)) (map tag_of (notes ∷ ts)) ≡ true = ap (λ r. fits r (map tag_of (notes ∷ ts))) (sym s.1) ∙ row.row in
    let set = second_of (admits sort.Notes (tag_of notes)) (nat_le 1 (length (map tag_of ts)) && list_all (admits s.0) (map tag_of ts)) all in
    pairs_shaped u s.0 eq s.1 notes ts h.0 (first_of (admits sort.Notes (tag_of notes)) (nat_le 1 (length (map tag_of ts)) && list_all (admits s.0) (map tag_of ts)) all) h.1
    (second_of (nat_le 1 (length (map tag_of ts))) (list_all (admits s.0) (map tag_of ts)) set)

named : (p : Tag) → is_tag tag.ObjectProperty p ≡ true → admits sort.ObjectPropertyExpression p ≡ true
unfolding admits
named p e = ap (λ (b : Bool). b || is_tag tag.ObjectInverseOf p) e

assertion_fits : (a b c d p : Tag) → IsTrue (fits (row_of tag.ObjectPropertyAssertion) (a ∷ b ∷ c ∷ d ∷ [])) → is_tag tag.ObjectProperty p ≡ true → IsTrue (fits (row_of tag.ObjectPropertyAssertion) (a ∷ p ∷ d ∷ c ∷ []))
unfolding row_of
assertion_fits a b c d p h e =
    let i = sort.Individual in
    let x = sort.ObjectPropertyExpression in
    let first = first_of (admits sort.Notes a) (admits x b && (admits i c && (admits i d && true))) h in
    let rest = second_of (admits sort.Notes a) (admits x b && (admits i c && (admits i d && true))) h in
    let ends = second_of (admits x b) (admits i c && (admits i d && true)) rest in
    let from = first_of (admits i c) (admits i d && true) ends in
    let to = first_of (admits i d) true (second_of (admits i c) (admits i d && true) ends) in
    both_true (admits sort.Notes a) (admits x p && (admits i d && (admits i c && true))) first
    (both_true (admits x p) (admits i d && (admits i c && true)) (named p e) (both_true (admits i d) (admits i c && true) to (both_true (admits i c) true from refl)))

inverses_no_assertion : is_tag tag.ObjectPropertyAssertion tag.InverseObjectProperties ≡ false
unfolding number_of
inverses_no_assertion = refl

key_no_assertion : is_tag tag.ObjectPropertyAssertion tag.HasKey ≡ false
unfolding number_of
key_no_assertion = refl

assertion_is : is_tag tag.ObjectPropertyAssertion tag.ObjectPropertyAssertion ≡ true
unfolding number_of
assertion_is = refl

only_row : (u : Tag) → is_tag u u ≡ true → is_tag u tag.InverseObjectProperties ≡ false → is_tag u tag.HasKey ≡ false → (ts : List Tree) → IsTrue (fits (row_of u) (map tag_of ts)) → FitsRow u ts
only_row u itself no_inverses no_key ts h = record {
  row = h;
  inverses = λ e. absurd (let same = ap (is_tag u) e in cc);
  keys = λ e. absurd (let same = ap (is_tag u) e in cc);
}

only_shaped : (ts : List Tree) (p : Tree) → only ts ≡ Some p → AllByRecursion IsShaped ts → IsShaped p
only_shaped [] p e h = absurd (none-some p e)
only_shaped (q ∷ []) p e h = subst IsShaped (same_Some q p e) h.0
only_shaped (q ∷ r ∷ ts) p e h = absurd (none-some p e)

kids_shaped : (t : Tree) → IsShaped t → AllByRecursion IsShaped (kids_in t)
kids_shaped (leaf u a) h = tt
kids_shaped (node u ks) h = shaped_each ks h.1

some_tree : (b : Bool) (o : Option Tree) (p : Tree) → cond b o None ≡ Some p → o ≡ Some p
some_tree true o p e = e
some_tree false o p e = absurd (none-some p e)

inverted_shaped : (t p : Tree) → inverted t ≡ Some p → IsShaped t → IsShaped p
inverted_shaped t p e h = only_shaped (kids_in t) p (some_tree (is_tag tag.ObjectInverseOf (tag_of t)) (only (kids_in t)) p e) (kids_shaped t h)

turned_by_property : (a b c d : Tree) (o : Option Tree) (ks : List Tree) → inverted b ≡ o → FitsRow tag.ObjectPropertyAssertion (a ∷ b ∷ c ∷ d ∷ []) → AllByRecursion IsShaped (a ∷ b ∷ c ∷ d ∷ []) → option_map (λ named. a ∷ named ∷ d ∷ c ∷ []) o ≡ Some ks → IsShaped (over tag.ObjectPropertyAssertion ks)
turned_by_property a b c d None ks i row h e = absurd (none-some ks e)
turned_by_property a b c d (Some p) ks i row h e =
    subst (λ (xs : List Tree). IsShaped (over tag.ObjectPropertyAssertion xs)) (same_Some (a ∷ p ∷ d ∷ c ∷ []) ks e)
    (shaped_over tag.ObjectPropertyAssertion (a ∷ p ∷ d ∷ c ∷ [])
    (only_row tag.ObjectPropertyAssertion assertion_is inverses_no_assertion key_no_assertion (a ∷ p ∷ d ∷ c ∷ [])
    (assertion_fits (tag_of a) (tag_of b) (tag_of c) (tag_of d) (tag_of p) row.row (inverted_property b p h.1.0 i)))
    (h.0, (inverted_shaped b p i h.1.0, (h.1.1.1.0, (h.1.1.0, tt)))))

turned_kids_shaped : (ts ks : List Tree) → turned_kids ts ≡ Some ks → FitsRow tag.ObjectPropertyAssertion ts → AllByRecursion IsShaped ts → IsShaped (over tag.ObjectPropertyAssertion ks)
turned_kids_shaped [] ks e row h = absurd (none-some ks e)
turned_kids_shaped (a ∷ []) ks e row h = absurd (none-some ks e)
turned_kids_shaped (a ∷ b ∷ []) ks e row h = absurd (none-some ks e)
turned_kids_shaped (a ∷ b ∷ c ∷ []) ks e row h = absurd (none-some ks e)
turned_kids_shaped (a ∷ b ∷ c ∷ d ∷ []) ks e row h = turned_by_property a b c d (inverted b) ks refl row h e
turned_kids_shaped (a ∷ b ∷ c ∷ d ∷ g ∷ ts) ks e row h = absurd (none-some ks e)

turned_at : (u : Tag) (ks : Kids) (b : Bool) (o : Option (List Tree)) → is_tag tag.ObjectPropertyAssertion u ≡ b → cond b (turned_kids (list_of ks)) None ≡ o → IsShaped (node u ks) → IsShaped (assertion_of (node u ks) o)
turned_at u ks b None e f h = h
turned_at u ks true (Some ls) e f h = turned_kids_shaped (list_of ks) ls f (subst (λ (v : Tag). FitsRow v (list_of ks)) (tag_told tag.ObjectPropertyAssertion u e) h.0) (shaped_each ks h.1)
turned_at u ks false (Some ls) e f h = absurd (none-some ls f)

leaf_turned : (u : Tag) (a : Atom) (b : Bool) → assertion_of (leaf u a) (cond b None None) ≡ leaf u a
leaf_turned u a true = refl
leaf_turned u a false = refl

turned_shaped : (t : Tree) → IsShaped t → IsShaped (turned t)
turned_shaped (leaf u a) h = subst IsShaped (sym (leaf_turned u a (is_tag tag.ObjectPropertyAssertion u))) h
turned_shaped (node u ks) h = turned_at u ks (is_tag tag.ObjectPropertyAssertion u) (turned_from (node u ks)) refl refl h

spread_shaped_by : (b : Bool) (t : Tree) → is_paired t ≡ b → IsShaped t → AllByRecursion IsShaped (cond b (pairs_in (tag_of t) (kids_in t)) (turned t ∷ []))
spread_shaped_by false t e h = (turned_shaped t h, tt)
spread_shaped_by true (leaf u a) e h = tt
spread_shaped_by true (node u ks) e h = pairs_in_shaped u (list_of ks) (first_of (are_equals u) (nat_lt 3 (length (list_of ks))) e) h.0 (shaped_each ks h.1)

spread_axiom : (t : Tree) → IsAxiom t → AllByRecursion IsAxiom (spread t)
spread_axiom t h =
    let shaped = spread_shaped_by (is_paired t) t refl h.shaped in
    all_from IsAxiom (spread t) (λ x m. record { tag = ap is_axiom (spread_tag t x m) ∙ h.tag; shaped = all_in IsShaped (spread t) x shaped m })

-- Annotations that were asserted.

annotation_fits : (a b c d : Tag) → IsTrue (fits (row_of tag.AnnotationAssertion) (a ∷ b ∷ c ∷ d ∷ [])) → IsTrue (fits (row_of tag.Annotation) (a ∷ b ∷ d ∷ []))
unfolding row_of
annotation_fits a b c d h =
    let s = sort.AnnotationSubject in
    let v = sort.AnnotationValue in
    let x = sort.AnnotationProperty in
    let first = first_of (admits sort.Notes a) (admits x b && (admits s c && (admits v d && true))) h in
    let rest = second_of (admits sort.Notes a) (admits x b && (admits s c && (admits v d && true))) h in
    let property = first_of (admits x b) (admits s c && (admits v d && true)) rest in
    let value = first_of (admits v d) true (second_of (admits s c) (admits v d && true) (second_of (admits x b) (admits s c && (admits v d && true)) rest)) in
    both_true (admits sort.Notes a) (admits x b && (admits v d && true)) first (both_true (admits x b) (admits v d && true) property (both_true (admits v d) true value refl))

annotation_is : is_tag tag.Annotation tag.Annotation ≡ true
unfolding number_of
annotation_is = refl

inverses_no_annotation : is_tag tag.Annotation tag.InverseObjectProperties ≡ false
unfolding number_of
inverses_no_annotation = refl

key_no_annotation : is_tag tag.Annotation tag.HasKey ≡ false
unfolding number_of
key_no_annotation = refl

subject_by : (name : Option (List ℕ)) (o : Option (List ℕ)) → is_same_iri name o ≡ true → o ≡ None → ⊥
subject_by None None e f = cc
subject_by None (Some i) e f = cc
subject_by (Some n) None e f = cc
subject_by (Some n) (Some i) e f = none-some i (sym f)

asserted_shaped : (t : Tree) (ts : List Tree) → (subject_in ts ≡ None → ⊥) → FitsRow tag.AnnotationAssertion ts → AllByRecursion IsShaped ts → IsAnnotation (asserted ts t)
asserted_shaped t [] some row h = absurd (some refl)
asserted_shaped t (a ∷ []) some row h = absurd (some refl)
asserted_shaped t (a ∷ b ∷ []) some row h = absurd (some refl)
asserted_shaped t (a ∷ b ∷ c ∷ []) some row h = absurd (some refl)
asserted_shaped t (a ∷ b ∷ c ∷ d ∷ []) some row h = record {
  tag = refl;
  shaped =
      shaped_over tag.Annotation (a ∷ b ∷ d ∷ [])
      (only_row tag.Annotation annotation_is inverses_no_annotation key_no_annotation (a ∷ b ∷ d ∷ []) (annotation_fits (tag_of a) (tag_of b) (tag_of c) (tag_of d) row.row))
      (h.0, (h.1.0, (h.1.1.1.0, tt)));
}
asserted_shaped t (a ∷ b ∷ c ∷ d ∷ e ∷ ts) some row h = absurd (some refl)

asserted_annotation : (name : Option (List ℕ)) (t : Tree) → is_about name t ≡ true → IsAxiom t → IsAnnotation (annotation_of t)
asserted_annotation name (leaf u a) e h = absurd (subject_by name None (second_of (is_tag tag.AnnotationAssertion u) (is_same_iri name None) e) refl)
asserted_annotation name (node u ks) e h =
    let same = tag_told tag.AnnotationAssertion u (first_of (is_tag tag.AnnotationAssertion u) (is_same_iri name (subject_in (list_of ks))) e) in
    let there = second_of (is_tag tag.AnnotationAssertion u) (is_same_iri name (subject_in (list_of ks))) e in
    asserted_shaped (node u ks) (list_of ks) (subject_by name (subject_in (list_of ks)) there) (subst (λ (v : Tag). FitsRow v (list_of ks)) same h.shaped.0) (shaped_each ks h.shaped.1)

pub shapes_last : IsLasting IsAxiom IsAnnotation
shapes_last = record {
  canonical_axiom = λ t h. record { tag = ap is_axiom (canonical_tag t) ∙ h.tag; shaped = (canonical_shape t).0 h.shaped };
  canonical_note = λ t h. record { tag = canonical_tag t ∙ h.tag; shaped = (canonical_shape t).0 h.shaped };
  spread = spread_axiom;
  asserted = asserted_annotation;
  tidied_axiom = λ t h. record { tag = ap is_axiom (tidied_tag t) ∙ h.tag; shaped = tidied_shaped t h.shaped };
  tidied_note = λ t h. record { tag = tidied_tag t ∙ h.tag; shaped = tidied_shaped t h.shaped };
}

-- the normal form of an ontology is an ontology
pub normal_is_ontology : (o : Ontology) → IsOntology o → IsOntology (normal_form o)
normal_is_ontology o h = record {
  head = h.head;
  annotations = annotations_last IsAxiom IsAnnotation shapes_last o h.axioms h.annotations;
  axioms = axioms_last IsAxiom IsAnnotation shapes_last o h.axioms;
}
