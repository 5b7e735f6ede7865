-- What is said of an expression means it, where no IRI is an object property and a data property.
use Rattle.std.proofs.Common.{◌≡◌, ℕ, Bool, true, false, if◌then◌else◌, None, Some, Ok, List, [], ◌∷◌, ◌++◌, refl, ap, ◌∙◌}
use Rattle.man_raw.specs.Raws.{RawTree, trees_of}
use Rattle.man_resolve.specs.declared.place.Place.{Place}
use Rattle.man_resolve.specs.declared.place.Place.TheVariants as place
use Rattle.man_resolve.specs.declared.shape.ByKind.{ByKind}
use Rattle.owl_tree.specs.Rows.{row_of}
use Rattle.man_resolve.specs.Expressions.{Knows, Stem, Told, after, all_at, all_of, behind, by_property, decided, leaf_of, meanings, meant, meant_atom, node_of, numbered, stem}
use Rattle.man_resolve.specs.Places.{by_kind, shape_of, tags_at}
use Rattle.owl_doc.specs.Entities.{entities, entities_of, kind_of}
use Rattle.owl_kind.specs.declared.kind.Kind.TheVariants as kind
use Rattle.owl_tree.specs.declared.atom.Atom.TheVariants as atom
use Rattle.owl_tree.specs.declared.tag.Tag.{Tag}
use Rattle.owl_tree.specs.declared.tag.Tag.TheVariants as tag
use Rattle.owl_tree.specs.Tags.{number_of}
use Rattle.owl_tree.specs.Trees.{Tree, kids_of, leaf, no_kids, node}
use Rattle.man_text.specs.Undecided.{form_of, is_bracketed, is_counted, leaf_what, operand, operands, undecided}
use Rattle.man_text.proofs.TypedLaws.{AreTyped, typed_first, typed_rest}
use Rattle.man_text.proofs.ExpressionLaws.{AreExpressionsAt, IsClassOrRange, IsCounted, IsExpressionAt, IsLeafAt, IsNameAt, IsPropertyOf, IsQuantified, IsValued, Side, class_not, complement, connected, counted, counted_of, data_exactly, data_max, data_min, data_only, data_property, data_some, data_value, datas, enumeration, expression, filler_place, inverse_property, named, no_expressions, object_exactly, object_max, object_min, object_only, object_property, object_some, object_value, objects, of_class, of_range, quantified, range_not, restricted, self_of, value_place, valued}
use Rattle.man_text.proofs.MeaningLaws.{MeanEach, all_mean, bare_property, connected_means, connects, enumeration_means, filler_is, first_mean, leaf_means, leaf_operand_means, leaves_mean, name_means, object_means, operand_means, pairs_mean, restricted_means}

abbrev pub side_tag : Side → ByKind → Tag
side_tag objects by = by.object_tag
side_tag datas by = by.data_tag

abbrev pub side_place : Side → ByKind → Place
side_place objects by = by.objects
side_place datas by = by.datas

module _ (ks : Knows) where
  module _ (apart : (iri : List ℕ) → ks kind.ObjectProperty iri ≡ true → ks kind.DataProperty iri ≡ true → ⊥) where
    pub property_means : (s : Side) (p : Tree) → IsPropertyOf s p → AreTyped ks (entities p) → meant ks (undecided p) place.Property ≡ Ok p
    unfolding leaf_what meant_atom tags_at kind_of form_of is_counted is_bracketed shape_of row_of
    property_means _ _ (object_property iri is) h = ap (λ (b : Bool). leaf_of ks 0 (atom.Iri iri) (if b then Some tag.ObjectProperty else (if ks kind.DataProperty iri then Some tag.DataProperty else None))) h.0
    property_means _ _ (inverse_property iri is) h = ap (λ (x : Told (List Tree)). node_of (stem tag.ObjectInverseOf x)) (first_mean ks place.ObjectName place.ObjectName (undecided (leaf tag.ObjectProperty (atom.Iri iri))) [] (leaf tag.ObjectProperty (atom.Iri iri)) [] (name_means ks place.ObjectName tag.ObjectProperty kind.ObjectProperty iri IsNameAt.object_name h) tt)
    property_means _ _ (data_property iri is) h =
        let other : ks kind.ObjectProperty iri ≡ false = not_both (ks kind.ObjectProperty iri) (λ e. apart iri e h.0) in
        ap (λ (b : Bool). leaf_of ks 0 (atom.Iri iri) (if b then Some tag.ObjectProperty else (if ks kind.DataProperty iri then Some tag.DataProperty else None))) other
        ∙ ap (λ (b : Bool). leaf_of ks 0 (atom.Iri iri) (if b then Some tag.DataProperty else None)) h.0
      where
        not_both : (b : Bool) → (b ≡ true → ⊥) → b ≡ false
        not_both true never = absurd (never refl)
        not_both false never = refl

    -- the property decides, and all behind it is meant by its side
    pub decided_so : (s : Side) (by : ByKind) (between : List Tree) (r : RawTree) (p : Tree) (rs : List RawTree) (ts : List Tree) → IsPropertyOf s p → AreTyped ks (entities p)
        → r ≡ undecided p → MeanEach ks (side_place s by) rs ts
        → decided by between (meanings ks (trees_of rs)) (meant ks r place.Property) ≡ Ok (record { tag = side_tag s by; kids = (p ∷ between) ++ ts })
    unfolding number_of
    decided_so s by between r p rs ts is typed e h =
        ap (λ (x : RawTree). decided by between (meanings ks (trees_of rs)) (meant ks x place.Property)) e
        ∙ ap (decided by between (meanings ks (trees_of rs))) (property_means s p is typed)
        ∙ by_side s by p is (all_mean ks (side_place s by) rs ts h)
      where
        by_side : (s : Side) (by : ByKind) (p : Tree) → IsPropertyOf s p → all_of (all_at (side_place s by) (meanings ks (trees_of rs))) ≡ Ok ts
            → decided by between (meanings ks (trees_of rs)) (Ok p) ≡ Ok (record { tag = side_tag s by; kids = (p ∷ between) ++ ts })
        by_side _ by p (object_property iri is) f = ap (λ (x : Told (List Tree)). stem by.object_tag (after (p ∷ between) x)) f
        by_side _ by p (inverse_property iri is) f = ap (λ (x : Told (List Tree)). stem by.object_tag (after (p ∷ between) x)) f
        by_side _ by p (data_property iri is) f = ap (λ (x : Told (List Tree)). stem by.data_tag (after (p ∷ between) x)) f

    -- ---- expressions

    -- restrictions, by their property

    abbrev quantifier : Tag → ByKind
    quantifier tag.ObjectAllValuesFrom = by_kind tag.ObjectAllValuesFrom place.Class tag.DataAllValuesFrom place.Range
    quantifier tag.DataAllValuesFrom = by_kind tag.ObjectAllValuesFrom place.Class tag.DataAllValuesFrom place.Range
    quantifier t = by_kind tag.ObjectSomeValuesFrom place.Class tag.DataSomeValuesFrom place.Range

    -- the property in front, and then the rest
    restriction_means : (s : Side) (by : ByKind) (p : Tree) (rs : List RawTree) (ts : List Tree) → IsPropertyOf s p → AreTyped ks (entities p) → MeanEach ks (side_place s by) rs ts
        → node_of (by_property by [] 1 0 (meanings ks (trees_of (operand (undecided p) ∷ rs)))) ≡ Ok (node (side_tag s by) (kids_of (p ∷ ts)))
    restriction_means s by p rs ts is typed h = ap node_of (decided_so s by [] (operand (undecided p)) p rs ts is typed (bare_property s p is) h)

    quantified_means : (s : Side) (t : Tag) (p a : Tree) → IsQuantified s t → IsPropertyOf s p → AreTyped ks (entities p) → meant ks (operand (undecided a)) (filler_place s) ≡ Ok a
        → meant ks (undecided (node t (kids_of (p ∷ a ∷ [])))) place.Class ≡ Ok (node t (kids_of (p ∷ a ∷ [])))
    unfolding form_of is_counted shape_of row_of
    quantified_means _ _ p a object_some is typed e = restriction_means objects (quantifier tag.ObjectSomeValuesFrom) p (operand (undecided a) ∷ []) (a ∷ []) is typed (e, tt)
    quantified_means _ _ p a object_only is typed e = restriction_means objects (quantifier tag.ObjectAllValuesFrom) p (operand (undecided a) ∷ []) (a ∷ []) is typed (e, tt)
    quantified_means _ _ p a data_some is typed e = restriction_means datas (quantifier tag.DataSomeValuesFrom) p (operand (undecided a) ∷ []) (a ∷ []) is typed (e, tt)
    quantified_means _ _ p a data_only is typed e = restriction_means datas (quantifier tag.DataAllValuesFrom) p (operand (undecided a) ∷ []) (a ∷ []) is typed (e, tt)

    valued_means : (s : Side) (t : Tag) (p a : Tree) → IsValued s t → IsPropertyOf s p → AreTyped ks (entities p) → meant ks (operand (undecided a)) (value_place s) ≡ Ok a
        → meant ks (undecided (node t (kids_of (p ∷ a ∷ [])))) place.Class ≡ Ok (node t (kids_of (p ∷ a ∷ [])))
    unfolding form_of is_counted shape_of row_of
    valued_means _ _ p a object_value is typed e = restriction_means objects (by_kind tag.ObjectHasValue place.Individual tag.DataHasValue place.Literal) p (operand (undecided a) ∷ []) (a ∷ []) is typed (e, tt)
    valued_means _ _ p a data_value is typed e = restriction_means datas (by_kind tag.ObjectHasValue place.Individual tag.DataHasValue place.Literal) p (operand (undecided a) ∷ []) (a ∷ []) is typed (e, tt)

    self_means : (p : Tree) → IsPropertyOf objects p → AreTyped ks (entities p) → meant ks (undecided (node tag.ObjectHasSelf (kids_of (p ∷ [])))) place.Class ≡ Ok (node tag.ObjectHasSelf (kids_of (p ∷ [])))
    unfolding form_of is_counted shape_of row_of
    self_means p is typed = ap (λ (x : Told (List Tree)). node_of (stem tag.ObjectHasSelf x)) (all_mean ks place.Object (operand (undecided p) ∷ []) (p ∷ []) (ap (λ (r : RawTree). meant ks r place.Object) (bare_property objects p is) ∙ object_means ks p is typed, tt))

    -- cardinalities
    abbrev cardinalities : Tag → ByKind
    cardinalities tag.ObjectMaxCardinality = by_kind tag.ObjectMaxCardinality place.Class tag.DataMaxCardinality place.Range
    cardinalities tag.DataMaxCardinality = by_kind tag.ObjectMaxCardinality place.Class tag.DataMaxCardinality place.Range
    cardinalities tag.ObjectExactCardinality = by_kind tag.ObjectExactCardinality place.Class tag.DataExactCardinality place.Range
    cardinalities tag.DataExactCardinality = by_kind tag.ObjectExactCardinality place.Class tag.DataExactCardinality place.Range
    cardinalities t = by_kind tag.ObjectMinCardinality place.Class tag.DataMinCardinality place.Range

    numbered_means : (s : Side) (by : ByKind) (n p : Tree) (rs : List RawTree) (ts : List Tree) → IsLeafAt place.Number n → IsPropertyOf s p → AreTyped ks (entities p) → MeanEach ks (side_place s by) rs ts
        → node_of (numbered by 0 (meanings ks (trees_of (operand (undecided p) ∷ operand (undecided n) ∷ rs)))) ≡ Ok (node (side_tag s by) (kids_of (n ∷ p ∷ ts)))
    unfolding leaf_what meant_atom tags_at kind_of
    numbered_means s by _ p rs ts (IsLeafAt.name_leaf _ t k iri at ok) is typed h = elim at [ ]
    numbered_means s by _ p rs ts (IsLeafAt.iri_leaf _ t iri at ok) is typed h = elim at [ ]
    numbered_means s by _ p rs ts (IsLeafAt.label_leaf _ label at ok) is typed h = elim at [ ]
    numbered_means s by _ p rs ts (IsLeafAt.literal_leaf _ value at ok) is typed h = elim at [ ]
    numbered_means s by _ p rs ts (IsLeafAt.number_leaf m few) is typed h =
        ap (λ (x : Told Stem). node_of (behind (Ok (leaf tag.Number (atom.Number m))) x)) (decided_so s by [] (operand (undecided p)) p rs ts is typed (bare_property s p is) h)

    counted_means : (s : Side) (t : Tag) (n p : Tree) → IsCounted s t → IsLeafAt place.Number n → IsPropertyOf s p → AreTyped ks (entities p)
        → meant ks (undecided (node t (kids_of (n ∷ p ∷ [])))) place.Class ≡ Ok (node t (kids_of (n ∷ p ∷ [])))
    unfolding form_of is_counted shape_of row_of
    counted_means _ _ n p object_min at is typed = numbered_means objects (cardinalities tag.ObjectMinCardinality) n p [] [] at is typed tt
    counted_means _ _ n p object_max at is typed = numbered_means objects (cardinalities tag.ObjectMaxCardinality) n p [] [] at is typed tt
    counted_means _ _ n p object_exactly at is typed = numbered_means objects (cardinalities tag.ObjectExactCardinality) n p [] [] at is typed tt
    counted_means _ _ n p data_min at is typed = numbered_means datas (cardinalities tag.DataMinCardinality) n p [] [] at is typed tt
    counted_means _ _ n p data_max at is typed = numbered_means datas (cardinalities tag.DataMaxCardinality) n p [] [] at is typed tt
    counted_means _ _ n p data_exactly at is typed = numbered_means datas (cardinalities tag.DataExactCardinality) n p [] [] at is typed tt

    counted_of_means : (s : Side) (t : Tag) (n p a : Tree) → IsCounted s t → IsLeafAt place.Number n → IsPropertyOf s p → AreTyped ks (entities p) → meant ks (operand (undecided a)) (filler_place s) ≡ Ok a
        → meant ks (undecided (node t (kids_of (n ∷ p ∷ a ∷ [])))) place.Class ≡ Ok (node t (kids_of (n ∷ p ∷ a ∷ [])))
    unfolding form_of is_counted shape_of row_of
    counted_of_means _ _ n p a object_min at is typed e = numbered_means objects (cardinalities tag.ObjectMinCardinality) n p (operand (undecided a) ∷ []) (a ∷ []) at is typed (e, tt)
    counted_of_means _ _ n p a object_max at is typed e = numbered_means objects (cardinalities tag.ObjectMaxCardinality) n p (operand (undecided a) ∷ []) (a ∷ []) at is typed (e, tt)
    counted_of_means _ _ n p a object_exactly at is typed e = numbered_means objects (cardinalities tag.ObjectExactCardinality) n p (operand (undecided a) ∷ []) (a ∷ []) at is typed (e, tt)
    counted_of_means _ _ n p a data_min at is typed e = numbered_means datas (cardinalities tag.DataMinCardinality) n p (operand (undecided a) ∷ []) (a ∷ []) at is typed (e, tt)
    counted_of_means _ _ n p a data_max at is typed e = numbered_means datas (cardinalities tag.DataMaxCardinality) n p (operand (undecided a) ∷ []) (a ∷ []) at is typed (e, tt)
    counted_of_means _ _ n p a data_exactly at is typed e = numbered_means datas (cardinalities tag.DataExactCardinality) n p (operand (undecided a) ∷ []) (a ∷ []) at is typed (e, tt)

    -- a set may have so many members

    mutual
      unfolding form_of is_counted shape_of row_of number_of

      pub expression_means : (p : Place) (t : Tree) → IsExpressionAt p t → AreTyped ks (entities t) → meant ks (undecided t) p ≡ Ok t
      expression_means _ _ (named p t is at) h = leaf_means ks p t at h
      expression_means _ _ (connected p t a b ts is es) h = connected_means ks p t a b ts is (expressions_mean p (a ∷ b ∷ ts) (connects ks p t is) es h)
      expression_means _ _ (complement _ _ a class_not e) h = ap (λ (x : Told (List Tree)). node_of (stem tag.ObjectComplementOf x)) (all_mean ks place.Class (operands (kids_of (a ∷ []))) (a ∷ []) (operand_means ks place.Class (undecided a) a of_class (expression_means place.Class a e (typed_first ks a no_kids h)), tt))
      expression_means _ _ (complement _ _ a range_not e) h = ap (λ (x : Told (List Tree)). node_of (stem tag.DataComplementOf x)) (all_mean ks place.Range (operands (kids_of (a ∷ []))) (a ∷ []) (operand_means ks place.Range (undecided a) a of_range (expression_means place.Range a e (typed_first ks a no_kids h)), tt))
      expression_means _ _ (enumeration p q t a ts is ls) h = enumeration_means ks p q t a ts is (leaves_mean ks q (a ∷ ts) ls h)
      expression_means _ _ (restricted d a ts at ps) h = restricted_means ks d a ts (leaf_operand_means ks place.Datatype d at (typed_first ks d (kids_of (a ∷ ts)) h)) (pairs_mean ks (a ∷ ts) ps)
      expression_means _ _ (quantified s t p a q is e) h =
          let filler = operand_means ks (filler_place s) (undecided a) a (filler_is ks s) (expression_means (filler_place s) a e (typed_first ks a no_kids (typed_rest ks p (kids_of (a ∷ [])) h))) in
          quantified_means s t p a q is (typed_first ks p (kids_of (a ∷ [])) h) filler
      expression_means _ _ (valued s t p a v is at) h =
          valued_means s t p a v is (typed_first ks p (kids_of (a ∷ [])) h) (leaf_operand_means ks (value_place s) a at (typed_first ks a no_kids (typed_rest ks p (kids_of (a ∷ [])) h)))
      expression_means _ _ (self_of p is) h = self_means p is (typed_first ks p no_kids h)
      expression_means _ _ (counted s t n p c at is) h = counted_means s t n p c at is (typed_first ks p no_kids (typed_rest ks n (kids_of (p ∷ [])) h))
      expression_means _ _ (counted_of s t n p a c at is e) h =
          let rest = typed_rest ks n (kids_of (p ∷ a ∷ [])) h in
          let filler = operand_means ks (filler_place s) (undecided a) a (filler_is ks s) (expression_means (filler_place s) a e (typed_first ks a no_kids (typed_rest ks p (kids_of (a ∷ [])) rest))) in
          counted_of_means s t n p a c at is (typed_first ks p (kids_of (a ∷ [])) rest) filler

      expressions_mean : (p : Place) (ts : List Tree) → IsClassOrRange p → AreExpressionsAt p ts → AreTyped ks (entities_of (kids_of ts)) → MeanEach ks p (operands (kids_of ts)) ts
      expressions_mean _ _ is (no_expressions p) h = tt
      expressions_mean _ _ is (expression p t ts e es) h = (operand_means ks p (undecided t) t is (expression_means p t e (typed_first ks t (kids_of ts) h)), expressions_mean p ts is es (typed_rest ks t (kids_of ts) h))
