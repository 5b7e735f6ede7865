-- What stands below an axiom that can be said.
use Rattle.std.proofs.Common.{◌≡◌, ◌≤◌, ◌⊎◌, ℕ, suc, Bool, true, false, cond, List, [], ◌∷◌, ◌++◌, length, inl, inr, refl, sym, ap, ◌∙◌, subst, arith}
use Rattle.std.specs.Prelude.{Contains, map, nat_lt, ◌&&◌, ◌||◌, Option, None, Some}
use Rattle.std.specs.List.{AllByRecursion}
use Rattle.std.specs.Option.{option_map}
use Rattle.std.proofs.lemmas.Bool.{and_from, and_parts, both_ways, ltb-false, or_left, or_right}
use Rattle.std.proofs.lemmas.List.{length-append, length-map}
use Rattle.std.proofs.lemmas.List.Elements.{Contains-append_right}
use Rattle.std.proofs.lemmas.Option.{none-some}
use Rattle.owl_doc.specs.Entities.{entities, entities_of}
use Rattle.owl_kind.specs.Kinds.{Entity, HasKind}
use Rattle.owl_list.proofs.AscendingLaws.{in_cases, in_none}
use Rattle.owl_tree.specs.declared.atom.Atom.{Atom}
use Rattle.owl_tree.specs.declared.row.Rest.TheVariants.{Nothing}
use Rattle.owl_tree.specs.declared.row.Sort.TheVariants as sort
use Rattle.owl_tree.specs.declared.tag.Tag.{Tag}
use Rattle.owl_tree.specs.declared.tag.Tag.TheVariants as tag
use Rattle.owl_tree.specs.Canonical.{SetAscends, SetsAscend}
use Rattle.owl_tree.proofs.CanonicalLaws.{ascends_is_canonical}
use Rattle.owl_tree.specs.Ontologies.{IsAxiom}
use Rattle.owl_tree.specs.Order.{tree_cmp}
use Rattle.owl_tree.specs.Rows.{admits, fits, fits_front, is_tag, row_of, set_start, takes}
use Rattle.owl_tree.specs.Rows as tree
use Rattle.owl_tree.specs.Shape.{AreShaped, FitsRow, HasKeyProperty, IsShaped}
use Rattle.owl_tree.specs.Tags.{number_of}
use Rattle.owl_tree.specs.Trees.{Tree, Kids, leaf, node, no_kids, kid, kids_in, list_of, tag_of}
use Rattle.owl_list.specs.Ascending.{IsAscending}
use Rattle.rdf_meaning.proofs.ListLaws.{one_at_least}
use Rattle.owl_doc.specs.Parts.{leaves, leaves_of}
use Rattle.rdf_sayable.specs.Sayable.{objection}
use Rattle.rdf_normal.specs.NormalForms.{are_equals, inverted, only, turned_kids}
use Rattle.rdf_mapping.specs.Drawing.{is_pair}
use Rattle.rdf_mapping.specs.Graphs.{all_labels_in, labels_in}
use Rattle.rdf_mapping.proofs.NodeDrawingLaws.{same_tag}
use Rattle.rdf_mapping.proofs.TreeDrawingLaws.{all_back}
use Rattle.rdf_axioms.specs.AxiomReading.{IsSayableAxiom}
use Rattle.rdf_axioms.specs.AxiomRows.{CanBehind, axiom_tree_row, behind_fits, front_of, is_of_pairs, rest_of}
use Rattle.rdf_axioms.proofs.MemberLaws.{few_members, forms_of_kids}
use Rattle.rdf_axioms.proofs.RowStandLaws.{HaveKeys}
use Rattle.rdf_axioms.proofs.SayableTreeLaws.{IsSayableTree, kids_sayable}

-- An axiom is a node, with its annotations first.

pub record HasNotes (a : Tree) : Type 0 where
  pub tag : Tag
  pub notes : Tree
  pub behind : Kids
  pub is : a ≡ node tag (kid notes behind)

pub axiom_node : (a : Tree) → IsAxiom a → HasNotes a
axiom_node (leaf t x) h = absurd (both_ways false refl (ap (λ (r : tree.Row). takes r x) (sym (axiom_tree_row t h.tag)) ∙ h.shaped.0))
axiom_node (node t no_kids) h = absurd (both_ways false refl (ap (λ (r : tree.Row). fits r []) (sym (axiom_tree_row t h.tag)) ∙ h.shaped.0.row))
axiom_node (node t (kid ns ks)) h = record { tag = t; notes = ns; behind = ks; is = refl }

-- Sets that pairs say have two members at most.

pairs_told : (t : Tag) → is_of_pairs t ≡ true → (are_equals t ≡ true) ⊎ (t ≡ tag.InverseObjectProperties)
unfolding is_pair number_of
pairs_told tag.EquivalentClasses h = inl refl
pairs_told tag.EquivalentObjectProperties h = inl refl
pairs_told tag.EquivalentDataProperties h = inl refl
pairs_told tag.SameIndividual h = inl refl
pairs_told tag.InverseObjectProperties h = inr refl
pairs_told _ h = absurd (both_ways false refl h)

few_equals : (b : Bool) (n : ℕ) → b ≡ true → (b && nat_lt 3 (suc n)) ≡ false → n ≤ 2
few_equals true n h e = omega (arith, ltb-false 3 (suc n) e)
few_equals false n h e = absurd (both_ways false refl h)

inverse_start : set_start (row_of tag.InverseObjectProperties) ≡ Some 1
unfolding row_of
inverse_start = refl

-- the members of such a set ascend
pub inverses_ascend : (t : Tag) (ns : Tree) (ks : Kids) → t ≡ tag.InverseObjectProperties → SetsAscend (node t (kid ns ks)) → IsAscending tree_cmp (list_of ks)
inverses_ascend t ns ks e h =
    subst (λ o. SetAscends o (ns ∷ list_of ks)) (ap (λ (u : Tag). set_start (row_of u)) e ∙ inverse_start) h.0

few_kids : (k : List Entity) (t : Tag) (ns : Tree) (ks : Kids) → IsSayableAxiom k (node t (kid ns ks)) → is_of_pairs t ≡ true → length (list_of ks) ≤ 2
few_kids k t ns ks h p =
    elim (pairs_told t p) [
      | inl e ↦ few_equals (are_equals t) (length (list_of ks)) e h.plain.paired
      | inr i ↦
          let ascend = (ascends_is_canonical (node t (kid ns ks))).1 h.canonical in
          few_members (list_of ks) (inverses_ascend t ns ks i ascend) (forms_of_kids ks ascend.1.1) (h.is.shaped.0.inverses i)
    ]

-- An assertion is of a named property.

property_or_inverse : (t : Tag) → admits sort.ObjectPropertyExpression t ≡ true → (admits sort.ObjectProperty t ≡ true) ⊎ (t ≡ tag.ObjectInverseOf)
unfolding admits number_of
property_or_inverse tag.ObjectProperty h = inl refl
property_or_inverse tag.ObjectInverseOf h = inr refl
property_or_inverse _ h = absurd (both_ways false refl h)

one_below : (ks : Kids) → fits (row_of tag.ObjectInverseOf) (map tag_of (list_of ks)) ≡ true → only (list_of ks) ≡ None → ⊥
unfolding row_of
one_below no_kids f e = both_ways false refl f
one_below (kid q no_kids) f e = none-some q (sym e)
one_below (kid q (kid r ks)) f e = both_ways false refl (and_parts (admits sort.ObjectProperty (tag_of q)) false f).1

inverse_no_leaf : (a : Atom) → takes (row_of tag.ObjectInverseOf) a ≡ true → ⊥
unfolding row_of
inverse_no_leaf a h = both_ways false refl h

not_inverse : (p : Tree) → IsShaped p → tag_of p ≡ tag.ObjectInverseOf → inverted p ≡ None → ⊥
unfolding number_of
not_inverse (leaf t a) shaped e i = inverse_no_leaf a (ap (λ (u : Tag). takes (row_of u) a) (sym e) ∙ shaped.0)
not_inverse (node t ks) shaped e i =
    one_below ks (ap (λ (u : Tag). fits (row_of u) (map tag_of (list_of ks))) (sym e) ∙ shaped.0.row)
    (ap (λ (u : Tag). cond (is_tag tag.ObjectInverseOf u) (only (list_of ks)) None) (sym e) ∙ i)

property_named : (p : Tree) → IsShaped p → admits sort.ObjectPropertyExpression (tag_of p) ≡ true → inverted p ≡ None → admits sort.ObjectProperty (tag_of p) ≡ true
property_named p shaped m i =
    elim (property_or_inverse (tag_of p) m) [ inl n ↦ n | inr e ↦ absurd (not_inverse p shaped e i) ]

none_mapped : {X Y : Type 0} (f : X → Y) (o : Option X) → option_map f o ≡ None → o ≡ None
none_mapped f None e = refl
none_mapped f (Some x) e = absurd (none-some (f x) (sym e))

assertion_named : (ns : Tree) (ks : Kids) → AreShaped ks → turned_kids (ns ∷ list_of ks) ≡ None → fits_front (sort.ObjectPropertyExpression ∷ sort.Individual ∷ sort.Individual ∷ []) Nothing (map tag_of (list_of ks)) ≡ true → fits_front (sort.ObjectProperty ∷ sort.Individual ∷ sort.Individual ∷ []) Nothing (map tag_of (list_of ks)) ≡ true
assertion_named ns no_kids shaped i f = absurd (both_ways false refl f)
assertion_named ns (kid p no_kids) shaped i f = absurd (both_ways false refl (and_parts (admits sort.ObjectPropertyExpression (tag_of p)) false f).1)
assertion_named ns (kid p (kid a no_kids)) shaped i f =
    absurd (both_ways false refl (and_parts (admits sort.Individual (tag_of a)) false (and_parts (admits sort.ObjectPropertyExpression (tag_of p)) _ f).1).1)
assertion_named ns (kid p (kid a (kid b no_kids))) shaped i f =
    let both = and_parts (admits sort.ObjectPropertyExpression (tag_of p)) (admits sort.Individual (tag_of a) && (admits sort.Individual (tag_of b) && true)) f in
    and_from (admits sort.ObjectProperty (tag_of p)) _
    (property_named p shaped.0 both.0 (none_mapped (λ named. ns ∷ named ∷ b ∷ a ∷ []) (inverted p) i)) both.1
assertion_named ns (kid p (kid a (kid b (kid x ks)))) shaped i f =
    absurd (both_ways false refl (and_parts (admits sort.Individual (tag_of b)) false (and_parts (admits sort.Individual (tag_of a)) _ (and_parts (admits sort.ObjectPropertyExpression (tag_of p)) _ f).1).1).1)

assertion_front : fits_front (front_of tag.ObjectPropertyAssertion) (rest_of tag.ObjectPropertyAssertion) ≡ fits_front (sort.ObjectPropertyExpression ∷ sort.Individual ∷ sort.Individual ∷ []) Nothing
unfolding row_of
assertion_front = refl

assertion_turned : (ts : List Tree) → cond (is_tag tag.ObjectPropertyAssertion tag.ObjectPropertyAssertion) (turned_kids ts) None ≡ turned_kids ts
unfolding number_of
assertion_turned ts = refl

named_kids : (k : List Entity) (t : Tag) (ns : Tree) (ks : Kids) → IsSayableAxiom k (node t (kid ns ks)) → t ≡ tag.ObjectPropertyAssertion → fits_front (front_of t) (rest_of t) (map tag_of (list_of ks)) ≡ true → fits_front (sort.ObjectProperty ∷ sort.Individual ∷ sort.Individual ∷ []) Nothing (map tag_of (list_of ks)) ≡ true
named_kids k t ns ks h e f =
    assertion_named ns ks h.is.shaped.1.1
    (sym (assertion_turned (ns ∷ list_of ks)) ∙ ap (λ (u : Tag). cond (is_tag tag.ObjectPropertyAssertion u) (turned_kids (ns ∷ list_of ks)) None) (sym e) ∙ h.plain.turned)
    (ap (λ (test : List Tag → Bool). test (map tag_of (list_of ks))) (sym assertion_front)
    ∙ ap (λ (u : Tag). fits_front (front_of u) (rest_of u) (map tag_of (list_of ks))) (sym e) ∙ f)

-- what stands behind the annotations
pub can_behind : (k : List Entity) (t : Tag) (ns : Tree) (ks : Kids) → IsSayableAxiom k (node t (kid ns ks)) → CanBehind t (map tag_of (list_of ks))
can_behind k t ns ks h =
    let f = behind_fits t (tag_of ns) (map tag_of (list_of ks)) h.is.tag h.is.shaped.0.row in
    record {
      fits = f;
      pairs = λ p. omega (arith, few_kids k t ns ks h p, length-map (list_of ks) tag_of);
      named = λ e. named_kids k t ns ks h e f;
    }

pub kids_good : (k : List Entity) (IsAllowed : List ℕ → Type 0) (t : Tag) (ns : Tree) (ks : Kids) → IsSayableAxiom k (node t (kid ns ks)) → ((label : List ℕ) → Contains (labels_in (node t (kid ns ks))) label → IsAllowed label) → AllByRecursion (IsSayableTree k IsAllowed) (list_of ks)
kids_good k IsAllowed t ns ks h labels =
    kids_sayable k IsAllowed ks h.is.shaped.1.1 (all_back (λ e. HasKind k e.kind e.iri) (entities ns) (entities_of ks) h.typed)
    (all_back (λ l. objection l ≡ None) (leaves ns) (leaves_of ks) h.sayable)
    (λ label m. labels label (Contains-append_right (labels_in ns) (all_labels_in ks) label m))

-- One group of keys has a member.

no_group : (t : Tag) → (admits sort.Notes t || admits sort.ClassExpression t) ≡ true → (t ≡ tag.ObjectKeys) ⊎ (t ≡ tag.DataKeys) → ⊥
unfolding admits number_of
no_group t h (inl e) = both_ways false refl (ap (λ (u : Tag). admits sort.Notes u || admits sort.ClassExpression u) (sym e) ∙ h)
no_group t h (inr e) = both_ways false refl (ap (λ (u : Tag). admits sort.Notes u || admits sort.ClassExpression u) (sym e) ∙ h)

some_key : (ns c o d : Tree) → admits sort.Notes (tag_of ns) ≡ true → admits sort.ClassExpression (tag_of c) ≡ true → HasKeyProperty (ns ∷ c ∷ o ∷ d ∷ []) → 1 ≤ length (kids_in o ++ kids_in d)
some_key ns c o d n m h =
    elim (in_cases ns (c ∷ o ∷ d ∷ []) h.group h.inside) [
      | inl e ↦ absurd (no_group (tag_of h.group) (ap (λ (u : Tree). admits sort.Notes (tag_of u) || admits sort.ClassExpression (tag_of u)) (sym e) ∙ or_left _ _ n) h.is_group)
      | inr i ↦
          elim (in_cases c (o ∷ d ∷ []) h.group i) [
            | inl e ↦ absurd (no_group (tag_of h.group) (ap (λ (u : Tree). admits sort.Notes (tag_of u) || admits sort.ClassExpression (tag_of u)) (sym e) ∙ or_right _ _ m) h.is_group)
            | inr j ↦
                elim (in_cases o (d ∷ []) h.group j) [
                  | inl e ↦ omega (arith, length-append (kids_in o) (kids_in d), one_at_least (kids_in o) h.property (subst (λ u. Contains (kids_in u) h.property) (sym e) h.member))
                  | inr l ↦
                      elim (in_cases d [] h.group l) [
                        | inl e ↦ omega (arith, length-append (kids_in o) (kids_in d), one_at_least (kids_in d) h.property (subst (λ u. Contains (kids_in u) h.property) (sym e) h.member))
                        | inr m ↦ absurd (in_none h.group m)
                      ]
                ]
          ]
    ]

key_case : (ns c o d : Tree) → fits (row_of tag.HasKey) (map tag_of (ns ∷ c ∷ o ∷ d ∷ [])) ≡ true → HasKeyProperty (ns ∷ c ∷ o ∷ d ∷ []) → 1 ≤ length (kids_in o ++ kids_in d)
unfolding row_of
key_case ns c o d f h =
    let first = and_parts (admits sort.Notes (tag_of ns)) _ f in
    some_key ns c o d first.0 (and_parts (admits sort.ClassExpression (tag_of c)) _ first.1).0 h

pub have_keys : (t : Tag) (ns : Tree) (ks : Kids) → is_tag tag.HasKey t ≡ true → FitsRow t (ns ∷ list_of ks) → HaveKeys (list_of ks)
have_keys t ns no_kids h f = tt
have_keys t ns (kid c no_kids) h f = tt
have_keys t ns (kid c (kid o no_kids)) h f = tt
have_keys t ns (kid c (kid o (kid d no_kids))) h f =
    let same : tag.HasKey ≡ t = same_tag tag.HasKey t h in
    key_case ns c o d (ap (λ (u : Tag). fits (row_of u) (map tag_of (ns ∷ c ∷ o ∷ d ∷ []))) same ∙ f.row) (f.keys (sym same))
have_keys t ns (kid c (kid o (kid d (kid x ks)))) h f = tt
