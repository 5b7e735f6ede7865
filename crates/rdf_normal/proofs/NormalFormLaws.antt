-- The laws of normal forms.
use Rattle.std.proofs.Common.{◌≡◌, ◌⊎◌, inl, inr, ℕ, Bool, true, false, ◌&&◌, cond, not, List, [], ◌∷◌, ◌++◌, map, filter, Contains, Option, None, Some, refl, sym, ap, ◌∙◌, subst}
use Rattle.std.specs.Prelude.{flat_map}
use Rattle.std.specs.List.{AllByRecursion, list_any}
use Rattle.std.specs.Option.{option_map}
use Rattle.std.proofs.lemmas.Bool.{false_from_ne_true}
use Rattle.std.proofs.lemmas.Option.{same_Some}
use Rattle.std.proofs.lemmas.List.Concat.{flat_map-cons}
use Rattle.owl_doc.specs.Heads.{iri_in}
use Rattle.owl_list.specs.Ascending.{HoldSame, ascending}
use Rattle.owl_list.proofs.AscendingLaws.{all_ascending, all_from, all_in, all_later, all_map, ascending_holds, from_map, in_map}
use Rattle.owl_tree.specs.declared.atom.Atom.{Atom}
use Rattle.owl_tree.specs.declared.tag.Tag.{Tag}
use Rattle.owl_tree.specs.declared.tag.Tag.TheVariants as tag
use Rattle.owl_tree.specs.Canonical.{canonical, canonicals, arranged}
use Rattle.owl_tree.proofs.CanonicalLaws.{arranged_holds}
use Rattle.owl_tree.specs.Ontologies.{Ontology, canonical_list}
use Rattle.owl_tree.specs.Order.{tree_cmp}
use Rattle.owl_tree.specs.OrderLaws.{only_equal_trees_tie, trees_total}
use Rattle.owl_tree.specs.Rows.{is_tag, row_of, set_start}
use Rattle.owl_tree.specs.Trees.{Tree, Kids, leaf, node, no_kids, kid, kids_in, kids_of, list_of, tag_of}
use Rattle.rdf_normal.proofs.NeedlessLaws.{any_told, first_of, second_of, from_filter, in_filter, not_false, says_more_told}
use Rattle.rdf_normal.specs.NormalForms.{annotation_of, assertion_of, asserted, bare, bears_notes, inverted, is_about, is_annotated, is_needless, is_paired, needed, needed_in, normal_form, only, own_assertions, pairs, pairs_in, says_more, settled, spread, spread_axioms, tidied, tidieds, turned, turned_kids, unsettled_annotations, unsettled_axioms}
use Rattle.rdf_normal.specs.OneTriple.{is_one_triple}
use Rattle.rdf_normal.specs.Tidied.{HasLeaf, HasLeafIn, IsSaidFully, IsTidiedOf, KidsHaveLeaf}

-- What is kept.

no_kids_there : (a : Bool) → (a && false) ≡ true → ⊥
no_kids_there true e = cc
no_kids_there false e = cc

bare_is_bare : (t : Tree) → is_annotated t ≡ true → is_annotated (bare t) ≡ true → ⊥
bare_is_bare (leaf t a) e f = cc
bare_is_bare (node t no_kids) e f = cc
bare_is_bare (node t (kid notes ks)) e f = no_kids_there (bears_notes t) f

told : (ts : List Tree) (t : Tree) → is_needless ts t ≡ true → IsSaidFully ts t
told ts t e =
    let one = first_of (is_one_triple t) (list_any (says_more t) ts) e in
    let u = any_told (says_more t) ts (second_of (is_one_triple t) (list_any (says_more t) ts) e) in
    let p = says_more_told t u.0 u.2 in
    record { one_triple = one; other = u.0; inside = u.1; annotated = p.0; same = p.1 }

-- what is annotated is needed
annotated_needed : (ts : List Tree) (t : Tree) → is_annotated t ≡ true → is_needless ts t ≡ false
annotated_needed ts t e =
    false_from_ne_true (is_needless ts t)
    (λ n.
    let s = told ts t n in
    bare_is_bare s.other s.annotated (ap is_annotated s.same ∙ e))

kept_or_said : (ts : List Tree) (t : Tree) (b : Bool) → is_needless ts t ≡ b → Contains ts t → Contains (needed ts) t ⊎ IsSaidFully (needed ts) t
kept_or_said ts t false e m = inl (in_filter (λ u. not (is_needless ts u)) ts t m (not_false (is_needless ts t) e))
kept_or_said ts t true e m =
    let s = told ts t e in
    inr (record {
      one_triple = s.one_triple;
      other = s.other;
      inside = in_filter (λ u. not (is_needless ts u)) ts s.other s.inside (not_false (is_needless ts s.other) (annotated_needed ts s.other s.annotated));
      annotated = s.annotated;
      same = s.same;
    })

pub holds : (ts : List Tree) → HoldSame (ascending tree_cmp ts) ts
holds ts = ascending_holds tree_cmp trees_total only_equal_trees_tie ts

-- each tree is there when it is tidied, or one says it with annotations
pub stays : (ts : List Tree) (t : Tree) → Contains ts t → Contains (settled ts) (tidied t) ⊎ IsSaidFully (settled ts) (tidied t)
stays ts t m = kept_or_said (ascending tree_cmp (map tidied ts)) (tidied t) _ refl ((holds (map tidied ts) (tidied t)).1 (in_map tidied ts t m))

-- and nothing else is there
pub nothing_else : (ts : List Tree) (u : Tree) → Contains (settled ts) u → IsTidiedOf ts u
nothing_else ts u m =
    let all = from_filter (λ v. not (is_needless (ascending tree_cmp (map tidied ts)) v)) (ascending tree_cmp (map tidied ts)) u m in
    let v = from_map tidied ts u ((holds (map tidied ts) u).0 all.0) in
    record { tree = v.element; inside = v.inside; same = v.value }

-- What is true of all stays true.

-- what is true of axioms, and of annotations, and stays so in each step
pub record IsLasting (axiom_fact note_fact : Tree → Type 0) : Type 0 where
  pub canonical_axiom : (t : Tree) → axiom_fact t → axiom_fact (canonical t)
  pub canonical_note : (t : Tree) → note_fact t → note_fact (canonical t)
  pub spread : (t : Tree) → axiom_fact t → AllByRecursion axiom_fact (spread t)
  pub asserted : (name : Option (List ℕ)) (t : Tree) → is_about name t ≡ true → axiom_fact t → note_fact (annotation_of t)
  pub tidied_axiom : (t : Tree) → axiom_fact t → axiom_fact (tidied t)
  pub tidied_note : (t : Tree) → note_fact t → note_fact (tidied t)

all_joined : (fact : Tree → Type 0) (ts us : List Tree) → AllByRecursion fact ts → AllByRecursion fact us → AllByRecursion fact (ts ++ us)
all_joined fact [] us h k = k
all_joined fact (t ∷ ts) us h k = (h.0, all_joined fact ts us h.1 k)

all_spread : (fact : Tree → Type 0) → ((t : Tree) → fact t → AllByRecursion fact (spread t)) → (ts : List Tree) → AllByRecursion fact ts → AllByRecursion fact (flat_map spread ts)
all_spread fact step [] h = tt
all_spread fact step (t ∷ ts) h = subst (AllByRecursion fact) (sym (flat_map-cons spread t ts)) (all_joined fact (spread t) (flat_map spread ts) (step t h.0) (all_spread fact step ts h.1))

all_kept : (fact : Tree → Type 0) (test : Tree → Bool) (ts : List Tree) → AllByRecursion fact ts → AllByRecursion fact (filter test ts)
all_kept fact test ts h = all_from fact (filter test ts) (λ t m. all_in fact ts t h (from_filter test ts t m).0)

pub all_forms : (fact : Tree → Type 0) (f : Tree → Tree) → ((t : Tree) → fact t → fact (f t)) → (ts : List Tree) → AllByRecursion fact ts → AllByRecursion fact (ascending tree_cmp (map f ts))
all_forms fact f step ts h = all_ascending fact tree_cmp (map f ts) (all_map f fact ts (all_later fact (λ t. fact (f t)) step ts h))

all_settled : (fact : Tree → Type 0) → ((t : Tree) → fact t → fact (tidied t)) → (ts : List Tree) → AllByRecursion fact ts → AllByRecursion fact (settled ts)
all_settled fact step ts h = all_kept fact (λ t. not (is_needless (ascending tree_cmp (map tidied ts)) t)) (ascending tree_cmp (map tidied ts)) (all_forms fact tidied step ts h)

spread_all_lasts : (axiom_fact note_fact : Tree → Type 0) → IsLasting axiom_fact note_fact → (o : Ontology) → AllByRecursion axiom_fact o.axioms → AllByRecursion axiom_fact (spread_axioms o)
spread_all_lasts A N l o h = all_forms A canonical l.canonical_axiom (flat_map spread (canonical_list o.axioms)) (all_spread A l.spread (canonical_list o.axioms) (all_forms A canonical l.canonical_axiom o.axioms h))

pub axioms_last : (axiom_fact note_fact : Tree → Type 0) → IsLasting axiom_fact note_fact → (o : Ontology) → AllByRecursion axiom_fact o.axioms → AllByRecursion axiom_fact (normal_form o).axioms
axioms_last A N l o h = all_settled A l.tidied_axiom (unsettled_axioms o) (all_kept A (λ t. not (is_about (iri_in o.head.name) t)) (spread_axioms o) (spread_all_lasts A N l o h))

pub annotations_last : (axiom_fact note_fact : Tree → Type 0) → IsLasting axiom_fact note_fact → (o : Ontology) → AllByRecursion axiom_fact o.axioms → AllByRecursion note_fact o.annotations → AllByRecursion note_fact (normal_form o).annotations
annotations_last A N l o h k =
    let all = spread_all_lasts A N l o h in
    let own : AllByRecursion N (map annotation_of (own_assertions o)) =
    all_map annotation_of N (own_assertions o)
    (all_from (λ t. N (annotation_of t)) (own_assertions o)
    (λ t m. let p = from_filter (is_about (iri_in o.head.name)) (spread_axioms o) t m in l.asserted (iri_in o.head.name) t p.1 (all_in A (spread_axioms o) t all p.0))) in
    all_settled N l.tidied_note (unsettled_annotations o) (all_forms N canonical l.canonical_note (o.annotations ++ map annotation_of (own_assertions o)) (all_joined N o.annotations (map annotation_of (own_assertions o)) k own))

-- Leaves.

-- each leaf meets the demand
abbrev mutual
  pub LeavesMeet : (Tag → Atom → Type 0) → Tree → Type 0
  LeavesMeet demand (leaf t a) = demand t a
  LeavesMeet demand (node t ks) = KidsMeet demand ks

  pub KidsMeet : (Tag → Atom → Type 0) → Kids → Type 0
  KidsMeet demand no_kids = Unit {0}
  KidsMeet demand (kid t ks) = LeavesMeet demand t × KidsMeet demand ks

module _ (demand : Tag → Atom → Type 0) where
  each_meets : (ks : Kids) → KidsMeet demand ks → AllByRecursion (LeavesMeet demand) (list_of ks)
  each_meets no_kids h = tt
  each_meets (kid t ks) h = (h.0, each_meets ks h.1)

  they_meet : (ts : List Tree) → AllByRecursion (LeavesMeet demand) ts → KidsMeet demand (kids_of ts)
  they_meet [] h = tt
  they_meet (t ∷ ts) h = (h.0, they_meet ts h.1)

  kids_meet : (t : Tree) → LeavesMeet demand t → AllByRecursion (LeavesMeet demand) (kids_in t)
  kids_meet (leaf t a) h = tt
  kids_meet (node t ks) h = each_meets ks h

  arranged_meet : (start : Option ℕ) (ts : List Tree) → AllByRecursion (LeavesMeet demand) ts → AllByRecursion (LeavesMeet demand) (arranged start ts)
  arranged_meet start ts h = all_from (LeavesMeet demand) (arranged start ts) (λ t m. all_in (LeavesMeet demand) ts t h ((arranged_holds start ts t).0 m))

  mutual
    canonical_meets : (t : Tree) → LeavesMeet demand t → LeavesMeet demand (canonical t)
    canonical_meets (leaf t a) h = h
    canonical_meets (node t ks) h = they_meet (arranged (set_start (row_of t)) (canonicals ks)) (arranged_meet (set_start (row_of t)) (canonicals ks) (canonicals_meet ks h))

    canonicals_meet : (ks : Kids) → KidsMeet demand ks → AllByRecursion (LeavesMeet demand) (canonicals ks)
    canonicals_meet no_kids h = tt
    canonicals_meet (kid t ks) h = (canonical_meets t h.0, canonicals_meet ks h.1)

  needed_meet : (b : Bool) (ts : List Tree) → AllByRecursion (LeavesMeet demand) ts → AllByRecursion (LeavesMeet demand) (cond b (needed ts) ts)
  needed_meet true ts h = all_kept (LeavesMeet demand) (λ t. not (is_needless ts t)) ts h
  needed_meet false ts h = h

  mutual
    tidied_meets : (t : Tree) → LeavesMeet demand t → LeavesMeet demand (tidied t)
    tidied_meets (leaf t a) h = h
    tidied_meets (node t ks) h =
        they_meet (needed_in t (arranged (set_start (row_of t)) (tidieds ks)))
        (needed_meet (is_tag tag.Notes t) (arranged (set_start (row_of t)) (tidieds ks)) (arranged_meet (set_start (row_of t)) (tidieds ks) (tidieds_meet ks h)))

    tidieds_meet : (ks : Kids) → KidsMeet demand ks → AllByRecursion (LeavesMeet demand) (tidieds ks)
    tidieds_meet no_kids h = tt
    tidieds_meet (kid t ks) h = (tidied_meets t h.0, tidieds_meet ks h.1)

  pairs_meet : (t : Tag) (notes : Tree) (ts : List Tree) → LeavesMeet demand notes → AllByRecursion (LeavesMeet demand) ts → AllByRecursion (LeavesMeet demand) (pairs t notes ts)
  pairs_meet t notes [] n h = tt
  pairs_meet t notes (a ∷ []) n h = tt
  pairs_meet t notes (a ∷ b ∷ ts) n h = ((n, (h.0, (h.1.0, tt))), pairs_meet t notes (b ∷ ts) n h.1)

  pairs_in_meet : (t : Tag) (ts : List Tree) → AllByRecursion (LeavesMeet demand) ts → AllByRecursion (LeavesMeet demand) (pairs_in t ts)
  pairs_in_meet t [] h = tt
  pairs_in_meet t (notes ∷ ts) h = pairs_meet t notes ts h.0 h.1

  only_meets : (ts : List Tree) (p : Tree) → only ts ≡ Some p → AllByRecursion (LeavesMeet demand) ts → LeavesMeet demand p
  only_meets [] p e h = absurd (cc)
  only_meets (q ∷ []) p e h = subst (LeavesMeet demand) (same_Some q p e) h.0
  only_meets (q ∷ r ∷ ts) p e h = absurd (cc)

  some_by : (b : Bool) (o : Option Tree) (p : Tree) → cond b o None ≡ Some p → o ≡ Some p
  some_by true o p e = e
  some_by false o p e = absurd (cc)

  inverted_meets : (t p : Tree) → inverted t ≡ Some p → LeavesMeet demand t → LeavesMeet demand p
  inverted_meets t p e h = only_meets (kids_in t) p (some_by (is_tag tag.ObjectInverseOf (tag_of t)) (only (kids_in t)) p e) (kids_meet t h)

  turned_by : (notes from to : Tree) (o : Option Tree) (t : Tree) → LeavesMeet demand t → LeavesMeet demand notes → LeavesMeet demand from → LeavesMeet demand to → ((p : Tree) → o ≡ Some p → LeavesMeet demand p) → LeavesMeet demand (assertion_of t (option_map (λ named. notes ∷ named ∷ to ∷ from ∷ []) o))
  turned_by notes from to None t h n f g p = h
  turned_by notes from to (Some q) t h n f g p = (n, (p q refl, (g, (f, tt))))

  turned_kids_meet : (t : Tree) (ts : List Tree) → LeavesMeet demand t → AllByRecursion (LeavesMeet demand) ts → LeavesMeet demand (assertion_of t (turned_kids ts))
  turned_kids_meet t [] h k = h
  turned_kids_meet t (a ∷ []) h k = h
  turned_kids_meet t (a ∷ b ∷ []) h k = h
  turned_kids_meet t (a ∷ b ∷ c ∷ []) h k = h
  turned_kids_meet t (a ∷ b ∷ c ∷ d ∷ []) h k = turned_by a c d (inverted b) t h k.0 k.1.1.0 k.1.1.1.0 (λ p e. inverted_meets b p e k.1.0)
  turned_kids_meet t (a ∷ b ∷ c ∷ d ∷ e ∷ ts) h k = h

  turned_at : (b : Bool) (t : Tree) (o : Option (List Tree)) → LeavesMeet demand t → LeavesMeet demand (assertion_of t o) → LeavesMeet demand (assertion_of t (cond b o None))
  turned_at true t o h k = k
  turned_at false t o h k = h

  turned_meets : (t : Tree) → LeavesMeet demand t → LeavesMeet demand (turned t)
  turned_meets t h = turned_at (is_tag tag.ObjectPropertyAssertion (tag_of t)) t (turned_kids (kids_in t)) h (turned_kids_meet t (kids_in t) h (kids_meet t h))

  spread_by : (b : Bool) (t : Tree) → LeavesMeet demand t → AllByRecursion (LeavesMeet demand) (cond b (pairs_in (tag_of t) (kids_in t)) (turned t ∷ []))
  spread_by true t h = pairs_in_meet (tag_of t) (kids_in t) (kids_meet t h)
  spread_by false t h = (turned_meets t h, tt)

  asserted_meets : (ts : List Tree) (t : Tree) → LeavesMeet demand t → AllByRecursion (LeavesMeet demand) ts → LeavesMeet demand (asserted ts t)
  asserted_meets [] t h k = h
  asserted_meets (a ∷ []) t h k = h
  asserted_meets (a ∷ b ∷ []) t h k = h
  asserted_meets (a ∷ b ∷ c ∷ []) t h k = h
  asserted_meets (a ∷ b ∷ c ∷ d ∷ []) t h k = (k.0, (k.1.0, (k.1.1.1.0, tt)))
  asserted_meets (a ∷ b ∷ c ∷ d ∷ e ∷ ts) t h k = h

  leaves_last : IsLasting (LeavesMeet demand) (LeavesMeet demand)
  leaves_last = record {
    canonical_axiom = canonical_meets;
    canonical_note = canonical_meets;
    spread = λ t h. spread_by (is_paired t) t h;
    asserted = λ name t e h. asserted_meets (kids_in t) t h (kids_meet t h);
    tidied_axiom = tidied_meets;
    tidied_note = tidied_meets;
  }

  -- where each leaf of the ontology meets the demand, so does each leaf of its normal form
  pub leaves_of_axioms : (o : Ontology) → AllByRecursion (LeavesMeet demand) o.axioms → AllByRecursion (LeavesMeet demand) (normal_form o).axioms
  leaves_of_axioms o h = axioms_last (LeavesMeet demand) (LeavesMeet demand) leaves_last o h

  pub leaves_of_annotations : (o : Ontology) → AllByRecursion (LeavesMeet demand) o.axioms → AllByRecursion (LeavesMeet demand) o.annotations → AllByRecursion (LeavesMeet demand) (normal_form o).annotations
  leaves_of_annotations o h k = annotations_last (LeavesMeet demand) (LeavesMeet demand) leaves_last o h k

mutual
  meets_if : (demand : Tag → Atom → Type 0) (u : Tree) → ((t : Tag) (a : Atom) → HasLeaf t a u → demand t a) → LeavesMeet demand u
  meets_if demand (leaf t a) h = h t a (refl, refl)
  meets_if demand (node t ks) h = kids_meet_if demand ks h

  kids_meet_if : (demand : Tag → Atom → Type 0) (ks : Kids) → ((t : Tag) (a : Atom) → KidsHaveLeaf t a ks → demand t a) → KidsMeet demand ks
  kids_meet_if demand no_kids h = tt
  kids_meet_if demand (kid u ks) h = (meets_if demand u (λ t a l. h t a (inl l)), kids_meet_if demand ks (λ t a l. h t a (inr l)))

mutual
  leaf_meets : (demand : Tag → Atom → Type 0) (u : Tree) (t : Tag) (a : Atom) → LeavesMeet demand u → HasLeaf t a u → demand t a
  leaf_meets demand (leaf v b) t a h l = subst (λ (c : Atom). demand t c) l.1 (subst (λ (w : Tag). demand w b) l.0 h)
  leaf_meets demand (node v ks) t a h l = kid_leaf_meets demand ks t a h l

  kid_leaf_meets : (demand : Tag → Atom → Type 0) (ks : Kids) (t : Tag) (a : Atom) → KidsMeet demand ks → KidsHaveLeaf t a ks → demand t a
  kid_leaf_meets demand no_kids t a h l = absurd l
  kid_leaf_meets demand (kid u ks) t a h (inl l) = leaf_meets demand u t a h.0 l
  kid_leaf_meets demand (kid u ks) t a h (inr l) = kid_leaf_meets demand ks t a h.1 l

all_meet : (demand : Tag → Atom → Type 0) (ts : List Tree) → ((t : Tag) (a : Atom) → HasLeafIn ts t a → demand t a) → AllByRecursion (LeavesMeet demand) ts
all_meet demand ts h = all_from (LeavesMeet demand) ts (λ u m. meets_if demand u (λ t a l. h t a (record { tree = u; inside = m; leaf = l })))

one_meets : (demand : Tag → Atom → Type 0) (ts : List Tree) (t : Tag) (a : Atom) → AllByRecursion (LeavesMeet demand) ts → HasLeafIn ts t a → demand t a
one_meets demand ts t a h l = leaf_meets demand l.tree t a (all_in (LeavesMeet demand) ts l.tree h l.inside) l.leaf

-- each leaf of the normal form is one of the ontology
pub axioms_have_leaf : (o : Ontology) (t : Tag) (a : Atom) → HasLeafIn (normal_form o).axioms t a → HasLeafIn o.axioms t a
axioms_have_leaf o t a l =
    one_meets (HasLeafIn o.axioms) (normal_form o).axioms t a (leaves_of_axioms (HasLeafIn o.axioms) o (all_meet (HasLeafIn o.axioms) o.axioms (λ u b k. k))) l

pub annotations_have_leaf : (o : Ontology) (t : Tag) (a : Atom) → HasLeafIn (normal_form o).annotations t a → HasLeafIn o.annotations t a ⊎ HasLeafIn o.axioms t a
annotations_have_leaf o t a l =
    let demand : Tag → Atom → Type 0 = λ u b. HasLeafIn o.annotations u b ⊎ HasLeafIn o.axioms u b in
    one_meets demand (normal_form o).annotations t a (leaves_of_annotations demand o (all_meet demand o.axioms (λ u b k. inr k)) (all_meet demand o.annotations (λ u b k. inl k))) l
