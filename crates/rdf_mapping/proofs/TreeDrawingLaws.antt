-- Each tree that is shaped and well typed is drawn.
use Rattle.std.proofs.Common.{◌≡◌, ℕ, Bool, true, false, List, [], ◌∷◌, ◌++◌, inl, inr, refl, sym, ap, ◌∙◌, subst, arith}
use Rattle.std.specs.Prelude.{Contains, map, not, ◌&&◌, ◌||◌}
use Rattle.std.specs.List.{AllByRecursion, list_any}
use Rattle.std.proofs.lemmas.Bool.{and_from, both_ways, cases_Bool, not-true, or_cases}
use Rattle.owl_kind.specs.Kinds.{Entity, HasKind}
use Rattle.owl_list.specs.Ascending.{AreApart}
use Rattle.owl_tree.specs.declared.row.Sort.{Sort}
use Rattle.owl_tree.specs.declared.row.Sort.TheVariants as sort
use Rattle.owl_tree.specs.declared.tag.Tag.{Tag}
use Rattle.owl_tree.specs.declared.tag.Tag.TheVariants as tag
use Rattle.owl_tree.specs.Rows.{admits, fits, is_tag, row_of}
use Rattle.owl_tree.specs.Rows as tree
use Rattle.owl_tree.specs.Shape.{AreShaped, IsShaped}
use Rattle.owl_tree.specs.Tags.{number_of}
use Rattle.owl_tree.specs.Trees.{Tree, Kids, leaf, node, no_kids, kid, list_of, tag_of}
use Rattle.rdf_graph.specs.declared.triple.Triple.{Triple}
use Rattle.std.proofs.lemmas.List.Elements.{Contains-append_left, Contains-append_right}
use Rattle.owl_doc.specs.Entities.{AreWellTyped, entities, entities_of}
use Rattle.rdf_meaning.specs.RowShapes.{is_expression}
use Rattle.rdf_mapping.specs.Drawing.{kids_seen, tags_of}
use Rattle.rdf_mapping.specs.Frames.{AreNamedApart}
use Rattle.rdf_mapping.proofs.FacetDrawingLaws.{facet_drawn}
use Rattle.rdf_mapping.specs.Graphs.{all_labels_in, labels_in}
use Rattle.rdf_mapping.proofs.LeafDrawingLaws.{leaf_drawn, property_tag}
use Rattle.rdf_mapping.proofs.NodeDrawingLaws.{node_drawn, same_tag}
use Rattle.rdf_mapping.specs.OwnLaws.{any_from}
use Rattle.rdf_mapping.proofs.RowDrawingLaws.{tag_seen}
use Rattle.rdf_mapping.specs.RowForLaws.{has_row_for}
use Rattle.rdf_mapping.specs.Written.{AreIndividuals, HasFacetNames, HaveFacetNames, HaveIndividuals, IsDrawn, IsDrawnWell, is_wanted}

-- Which nodes may stand at the parts of a row.

abbrev wanted : List Sort
wanted =
    sort.ClassExpression ∷ sort.DataRange ∷ sort.Datatype ∷ sort.ObjectPropertyExpression ∷ sort.ObjectProperty ∷
    sort.DataPropertyExpression ∷ sort.Individual ∷ sort.Literal ∷ sort.Number ∷ sort.FacetPair ∷ sort.Class ∷
    sort.AnnotationProperty ∷ sort.AnnotationSubject ∷ sort.AnnotationValue ∷ sort.Iri ∷ []

in_wanted : (s : Sort) → is_wanted s ≡ true → Contains wanted s
in_wanted sort.ClassExpression h = (0, omega arith, refl)
in_wanted sort.DataRange h = (1, omega arith, refl)
in_wanted sort.Datatype h = (2, omega arith, refl)
in_wanted sort.ObjectPropertyExpression h = (3, omega arith, refl)
in_wanted sort.ObjectProperty h = (4, omega arith, refl)
in_wanted sort.DataPropertyExpression h = (5, omega arith, refl)
in_wanted sort.Individual h = (6, omega arith, refl)
in_wanted sort.Literal h = (7, omega arith, refl)
in_wanted sort.Number h = (8, omega arith, refl)
in_wanted sort.FacetPair h = (9, omega arith, refl)
in_wanted sort.Class h = (10, omega arith, refl)
in_wanted sort.AnnotationProperty h = (11, omega arith, refl)
in_wanted sort.AnnotationSubject h = (12, omega arith, refl)
in_wanted sort.AnnotationValue h = (13, omega arith, refl)
in_wanted sort.Iri h = (14, omega arith, refl)
in_wanted _ h = absurd (both_ways false refl h)

abbrev has_atom : tree.Row → Bool
has_atom (tree.Leaf s) = true
has_atom (tree.Node front rest) = false

atom_no_kids : (r : tree.Row) (ts : List Tag) → has_atom r ≡ true → fits r ts ≡ true → ⊥
atom_no_kids (tree.Leaf s) ts h f = both_ways false refl f
atom_no_kids (tree.Node front rest) ts h f = both_ways false refl h

told : (t : Tag) → (not (list_any (λ s. admits s t) wanted) || (has_atom (row_of t) || (is_expression t || is_tag tag.FacetPair t))) ≡ true
unfolding admits row_of number_of
told tag.Class = refl
told _ = refl

no_facet_expression : (t : Tag) → (is_expression t && is_tag tag.FacetPair t) ≡ false
unfolding number_of
no_facet_expression tag.Class = refl
no_facet_expression _ = refl

only_facet_pair : (s : Sort) → (is_wanted s && admits s tag.FacetPair) ≡ true → s ≡ sort.FacetPair
unfolding admits number_of
only_facet_pair sort.FacetPair h = refl
only_facet_pair _ h = absurd (both_ways false refl h)

not_facet : (t : Tag) → is_expression t ≡ true → is_tag tag.FacetPair t ≡ false
not_facet t e =
    elim (cases_Bool (is_tag tag.FacetPair t)) [
      | inl a ↦ absurd (both_ways (is_expression t && is_tag tag.FacetPair t) (no_facet_expression t) (and_from (is_expression t) (is_tag tag.FacetPair t) e a))
      | inr b ↦ b
    ]

no_property_kids : (ts : List Tag) → fits (row_of tag.ObjectProperty) ts ≡ true → ⊥
unfolding row_of
no_property_kids ts h = both_ways false refl h

pub tags_each : (ks : Kids) → tags_of (kids_seen ks) ≡ map tag_of (list_of ks)
tags_each no_kids = refl
tags_each (kid t ks) = λ i. tag_seen t i ∷ tags_each ks i

pub all_front : {X : Type 0} (P : X → Type 0) (xs ys : List X) → AllByRecursion P (xs ++ ys) → AllByRecursion P xs
all_front P [] ys h = tt
all_front P (x ∷ xs) ys h = (h.0, all_front P xs ys h.1)

pub all_back : {X : Type 0} (P : X → Type 0) (xs ys : List X) → AllByRecursion P (xs ++ ys) → AllByRecursion P ys
all_back P [] ys h = h
all_back P (x ∷ xs) ys h = all_back P xs ys h.1

-- what holds of trees that are shaped and well typed, of the first of some kids and of the others
pub first_and_others : {A B : Type 0} → (g : List Triple) (k : List Entity) (t : Tree) (ks : Kids) → (IsShaped t → AreWellTyped k (entities t) → HasFacetNames t → AreIndividuals g t → A) → (AreShaped ks → AreWellTyped k (entities_of ks) → HaveFacetNames ks → HaveIndividuals g ks → B) → AreShaped (kid t ks) → AreWellTyped k (entities_of (kid t ks)) → HaveFacetNames (kid t ks) → HaveIndividuals g (kid t ks) → A × B
first_and_others g k t ks first others shaped typed names single = (
  first shaped.0 (all_front (λ e. HasKind k e.kind e.iri) (entities t) (entities_of ks) typed) names.0
      (λ label m. single label (Contains-append_left (labels_in t) (all_labels_in ks) label m)),
  others shaped.1 (all_back (λ e. HasKind k e.kind e.iri) (entities t) (entities_of ks) typed) names.1
      (λ label m. single label (Contains-append_right (labels_in t) (all_labels_in ks) label m)),
)

module _ (name : ℕ → List ℕ) (most : ℕ) (differ : AreNamedApart name most) (g : List Triple) (k : List Entity) (apart : AreApart g) where
  node_by_tag : (s : Sort) (t : Tag) (ks : Kids) → is_wanted s ≡ true → admits s t ≡ true → fits (row_of t) (map tag_of (list_of ks)) ≡ true → AreShaped ks → HaveFacetNames ks → AllByRecursion (IsDrawnWell name most g k) (list_of ks) → IsDrawn name most g k s (node t ks)
  node_by_tag s t ks w m fitting shaped names all =
      elim (or_cases (not (list_any (λ r. admits r t) wanted)) (has_atom (row_of t) || (is_expression t || is_tag tag.FacetPair t)) (told t)) [
        | inl n ↦ absurd (both_ways (list_any (λ r. admits r t) wanted) (not-true (list_any (λ r. admits r t) wanted) n) (any_from (λ r. admits r t) wanted s (in_wanted s w) m))
        | inr o ↦
            elim (or_cases (has_atom (row_of t)) (is_expression t || is_tag tag.FacetPair t) o) [
              | inl a ↦ absurd (atom_no_kids (row_of t) (map tag_of (list_of ks)) a fitting)
              | inr p ↦
                  elim (or_cases (is_expression t) (is_tag tag.FacetPair t) p) [
                    | inl e ↦
                        node_drawn name most differ g k apart s t ks (not_facet t e)
                        (has_row_for t (tags_of (kids_seen ks)) e (ap (fits (row_of t)) (tags_each ks) ∙ fitting)) m all
                    | inr f ↦
                        let same : tag.FacetPair ≡ t = same_tag tag.FacetPair t f in
                        let sorted : s ≡ sort.FacetPair = only_facet_pair s (and_from (is_wanted s) (admits s tag.FacetPair) w (ap (admits s) same ∙ m)) in
                        subst (λ r. IsDrawn name most g k r (node t ks)) (sym sorted)
                        (subst (λ u. IsDrawn name most g k sort.FacetPair (node u ks)) same
                        (facet_drawn name most differ g k apart ks (ap (λ (u : Tag). fits (row_of u) (map tag_of (list_of ks))) same ∙ fitting) shaped names))
                  ]
            ]
      ]

  mutual
    pub tree_drawn : (t : Tree) → IsShaped t → AreWellTyped k (entities t) → HasFacetNames t → AreIndividuals g t → IsDrawnWell name most g k t
    tree_drawn (leaf t a) shaped typed names single = leaf_drawn g k name most t a shaped.0 shaped.1 typed single
    tree_drawn (node t ks) shaped typed names single =
        record {
          drawn = λ s w m. node_by_tag s t ks w m shaped.0.row shaped.1 names (kids_drawn ks shaped.1 typed names single);
          named = λ m n. absurd (no_property_kids (map tag_of (list_of ks)) (ap (λ (u : Tag). fits (row_of u) (map tag_of (list_of ks))) (property_tag t m) ∙ shaped.0.row));
        }

    pub kids_drawn : (ks : Kids) → AreShaped ks → AreWellTyped k (entities_of ks) → HaveFacetNames ks → HaveIndividuals g ks → AllByRecursion (IsDrawnWell name most g k) (list_of ks)
    kids_drawn no_kids shaped typed names single = tt
    kids_drawn (kid t ks) shaped typed names single = first_and_others g k t ks (tree_drawn t) (kids_drawn ks) shaped typed names single
