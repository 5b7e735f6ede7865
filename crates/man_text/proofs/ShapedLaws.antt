-- Shaped trees by the places at which they stand.
use Rattle.std.proofs.Common.{◌≡◌, ◌≤◌, ℕ, arith, true, false, List, [], ◌∷◌, length, map, refl, sym, ap, subst}
use Rattle.std.specs.Prelude.{◌&&◌}
use Rattle.std.specs.List.{AllByRecursion, list_all}
use Rattle.std.proofs.lemmas.Bool.{and_from, and_parts}
use Rattle.man_resolve.specs.declared.place.Place.TheVariants as place
use Rattle.man_sayable.specs.Sayable.{are_many}
use Rattle.owl_tree.specs.declared.atom.Atom.{Atom}
use Rattle.owl_tree.specs.declared.row.Rest.TheVariants.{Nothing, Optional, Set}
use Rattle.owl_tree.specs.declared.row.Sort.{Sort}
use Rattle.owl_tree.specs.declared.row.Sort.TheVariants as sort
use Rattle.owl_tree.specs.declared.tag.Tag.{Tag}
use Rattle.owl_tree.specs.declared.tag.Tag.TheVariants as tag
use Rattle.owl_tree.specs.Rows.{admits, ends_in, fits, fits_front, fits_rest, row_of}
use Rattle.owl_tree.specs.Shape.{AreShaped, IsShaped}
use Rattle.owl_tree.specs.Tags.{number_of}
use Rattle.owl_tree.specs.Trees.{Kids, Tree, kid, kids_of, leaf, list_of, no_kids, node, tag_of}
use Rattle.man_text.proofs.ExpressionLaws.{IsLeafAt, IsNameAt, IsPropertyOf, Side, data_property, datas, inverse_property, object_property, objects}
use Rattle.man_text.proofs.SortLaws as leaves
use Rattle.man_text.proofs.SortLaws.{IsNodeAt, IsNodeOf, cardinality, class_node, complement, connective, enumeration, has_self, quantifier, range_node, restricted, sort_at, valued}

-- ---- leaves

no_class_name_node : (t : Tag) (ts : List Tag) → IsNodeOf sort.Class t ts → ⊥
unfolding admits row_of number_of
no_class_name_node tag.Class ts e = absurd (cc)
no_class_name_node _ ts e = absurd (cc)

pub class_name_at : (t : Tree) → admits sort.Class (tag_of t) ≡ true → IsShaped t → IsLeafAt place.ClassName t
class_name_at (leaf t a) e shaped = leaves.class_name_leaf t a (and_from (admits sort.Class t) _ e shaped.0) shaped.1
class_name_at (node t ks) e shaped = absurd (no_class_name_node t (map tag_of (list_of ks)) (and_from (admits sort.Class t) _ e shaped.0.row))

no_datatype_node : (t : Tag) (ts : List Tag) → IsNodeOf sort.Datatype t ts → ⊥
unfolding admits row_of number_of
no_datatype_node tag.Class ts e = absurd (cc)
no_datatype_node _ ts e = absurd (cc)

pub datatype_at : (t : Tree) → admits sort.Datatype (tag_of t) ≡ true → IsShaped t → IsLeafAt place.Datatype t
datatype_at (leaf t a) e shaped = leaves.datatype_leaf t a (and_from (admits sort.Datatype t) _ e shaped.0) shaped.1
datatype_at (node t ks) e shaped = absurd (no_datatype_node t (map tag_of (list_of ks)) (and_from (admits sort.Datatype t) _ e shaped.0.row))

no_object_name_node : (t : Tag) (ts : List Tag) → IsNodeOf sort.ObjectProperty t ts → ⊥
unfolding admits row_of number_of
no_object_name_node tag.Class ts e = absurd (cc)
no_object_name_node _ ts e = absurd (cc)

pub object_name_at : (t : Tree) → admits sort.ObjectProperty (tag_of t) ≡ true → IsShaped t → IsLeafAt place.ObjectName t
object_name_at (leaf t a) e shaped = leaves.object_name_leaf t a (and_from (admits sort.ObjectProperty t) _ e shaped.0) shaped.1
object_name_at (node t ks) e shaped = absurd (no_object_name_node t (map tag_of (list_of ks)) (and_from (admits sort.ObjectProperty t) _ e shaped.0.row))

no_data_node : (t : Tag) (ts : List Tag) → IsNodeOf sort.DataPropertyExpression t ts → ⊥
unfolding admits row_of number_of
no_data_node tag.Class ts e = absurd (cc)
no_data_node _ ts e = absurd (cc)

pub data_at : (t : Tree) → admits sort.DataPropertyExpression (tag_of t) ≡ true → IsShaped t → IsLeafAt place.Data t
data_at (leaf t a) e shaped = leaves.data_leaf t a (and_from (admits sort.DataPropertyExpression t) _ e shaped.0) shaped.1
data_at (node t ks) e shaped = absurd (no_data_node t (map tag_of (list_of ks)) (and_from (admits sort.DataPropertyExpression t) _ e shaped.0.row))

no_annotation_property_node : (t : Tag) (ts : List Tag) → IsNodeOf sort.AnnotationProperty t ts → ⊥
unfolding admits row_of number_of
no_annotation_property_node tag.Class ts e = absurd (cc)
no_annotation_property_node _ ts e = absurd (cc)

pub annotation_property_at : (t : Tree) → admits sort.AnnotationProperty (tag_of t) ≡ true → IsShaped t → IsLeafAt place.AnnotationProperty t
annotation_property_at (leaf t a) e shaped = leaves.annotation_property_leaf t a (and_from (admits sort.AnnotationProperty t) _ e shaped.0) shaped.1
annotation_property_at (node t ks) e shaped = absurd (no_annotation_property_node t (map tag_of (list_of ks)) (and_from (admits sort.AnnotationProperty t) _ e shaped.0.row))

no_individual_node : (t : Tag) (ts : List Tag) → IsNodeOf sort.Individual t ts → ⊥
unfolding admits row_of number_of
no_individual_node tag.Class ts e = absurd (cc)
no_individual_node _ ts e = absurd (cc)

pub individual_at : (t : Tree) → admits sort.Individual (tag_of t) ≡ true → IsShaped t → IsLeafAt place.Individual t
individual_at (leaf t a) e shaped = leaves.individual_leaf t a (and_from (admits sort.Individual t) _ e shaped.0) shaped.1
individual_at (node t ks) e shaped = absurd (no_individual_node t (map tag_of (list_of ks)) (and_from (admits sort.Individual t) _ e shaped.0.row))

no_value_node : (t : Tag) (ts : List Tag) → IsNodeOf sort.AnnotationValue t ts → ⊥
unfolding admits row_of number_of
no_value_node tag.Class ts e = absurd (cc)
no_value_node _ ts e = absurd (cc)

pub value_at : (t : Tree) → admits sort.AnnotationValue (tag_of t) ≡ true → IsShaped t → IsLeafAt place.Value t
value_at (leaf t a) e shaped = leaves.value_leaf t a (and_from (admits sort.AnnotationValue t) _ e shaped.0) shaped.1
value_at (node t ks) e shaped = absurd (no_value_node t (map tag_of (list_of ks)) (and_from (admits sort.AnnotationValue t) _ e shaped.0.row))

no_iri_node : (t : Tag) (ts : List Tag) → IsNodeOf sort.Iri t ts → ⊥
unfolding admits row_of number_of
no_iri_node tag.Class ts e = absurd (cc)
no_iri_node _ ts e = absurd (cc)

pub iri_at : (t : Tree) → admits sort.Iri (tag_of t) ≡ true → IsShaped t → IsLeafAt place.Iri t
iri_at (leaf t a) e shaped = leaves.iri_leaf t a (and_from (admits sort.Iri t) _ e shaped.0) shaped.1
iri_at (node t ks) e shaped = absurd (no_iri_node t (map tag_of (list_of ks)) (and_from (admits sort.Iri t) _ e shaped.0.row))

no_literal_node : (t : Tag) (ts : List Tag) → IsNodeOf sort.Literal t ts → ⊥
unfolding admits row_of number_of
no_literal_node tag.Class ts e = absurd (cc)
no_literal_node _ ts e = absurd (cc)

pub literal_at : (t : Tree) → admits sort.Literal (tag_of t) ≡ true → IsShaped t → IsLeafAt place.Literal t
literal_at (leaf t a) e shaped = leaves.literal_leaf t a (and_from (admits sort.Literal t) _ e shaped.0) shaped.1
literal_at (node t ks) e shaped = absurd (no_literal_node t (map tag_of (list_of ks)) (and_from (admits sort.Literal t) _ e shaped.0.row))

no_number_node : (t : Tag) (ts : List Tag) → IsNodeOf sort.Number t ts → ⊥
unfolding admits row_of number_of
no_number_node tag.Class ts e = absurd (cc)
no_number_node _ ts e = absurd (cc)

pub number_at : (t : Tree) → admits sort.Number (tag_of t) ≡ true → IsShaped t → IsLeafAt place.Number t
number_at (leaf t a) e shaped = leaves.number_leaf t a (and_from (admits sort.Number t) _ e shaped.0) shaped.1
number_at (node t ks) e shaped = absurd (no_number_node t (map tag_of (list_of ks)) (and_from (admits sort.Number t) _ e shaped.0.row))

-- ---- kids, by the rows of their nodes

pub record One (s : Sort) (ts : List Tree) : Type 0 where
  pub a : Tree
  pub is : ts ≡ a ∷ []
  pub first : admits s (tag_of a) ≡ true

pub record Two (s r : Sort) (ts : List Tree) : Type 0 where
  pub a : Tree
  pub b : Tree
  pub is : ts ≡ a ∷ b ∷ []
  pub first : admits s (tag_of a) ≡ true
  pub second : admits r (tag_of b) ≡ true

pub record Three (s r q : Sort) (ts : List Tree) : Type 0 where
  pub a : Tree
  pub b : Tree
  pub d : Tree
  pub is : ts ≡ a ∷ b ∷ d ∷ []
  pub first : admits s (tag_of a) ≡ true
  pub second : admits r (tag_of b) ≡ true
  pub third : admits q (tag_of d) ≡ true

pub one_kid : (s : Sort) (ts : List Tree) → fits_front (s ∷ []) Nothing (map tag_of ts) ≡ true → One s ts
one_kid s [] e = absurd (cc)
one_kid s (a ∷ []) e = record { a = a; is = refl; first = (and_parts (admits s (tag_of a)) true e).0 }
one_kid s (a ∷ b ∷ ts) e = let rest = (and_parts (admits s (tag_of a)) false e).1 in absurd (cc)

pub two_kids : (s r : Sort) (ts : List Tree) → fits_front (s ∷ r ∷ []) Nothing (map tag_of ts) ≡ true → Two s r ts
two_kids s r [] e = absurd (cc)
two_kids s r (a ∷ ts) e =
    let parts = and_parts (admits s (tag_of a)) (fits_front (r ∷ []) Nothing (map tag_of ts)) e in
    let rest = one_kid r ts parts.1 in
    record { a = a; b = rest.a; is = ap (λ (us : List Tree). a ∷ us) rest.is; first = parts.0; second = rest.first }

pub three_kids : (s r q : Sort) (ts : List Tree) → fits_front (s ∷ r ∷ q ∷ []) Nothing (map tag_of ts) ≡ true → Three s r q ts
three_kids s r q [] e = absurd (cc)
three_kids s r q (a ∷ ts) e =
    let parts = and_parts (admits s (tag_of a)) (fits_front (r ∷ q ∷ []) Nothing (map tag_of ts)) e in
    let rest = two_kids r q ts parts.1 in
    record { a = a; b = rest.a; d = rest.b; is = ap (λ (us : List Tree). a ∷ us) rest.is; first = parts.0; second = rest.first; third = rest.second }

-- one property, and what is behind it
pub some_then : (s r : Sort) (ts : List Tree) → ends_in s r (map tag_of ts) ≡ true → are_many ts ≡ false → Two s r ts
some_then s r [] e few = absurd (cc)
some_then s r (a ∷ []) e few = absurd (cc)
some_then s r (a ∷ b ∷ []) e few = let parts = and_parts (admits s (tag_of a)) (admits r (tag_of b)) e in record { a = a; b = b; is = refl; first = parts.0; second = parts.1 }
some_then s r (a ∷ b ∷ d ∷ ts) e few = absurd (cc)

-- two kids, or a third
pub data TwoOrThree (s r q : Sort) (ts : List Tree) : Type 0 where
  two : Two s r ts → TwoOrThree s r q ts
  three : Three s r q ts → TwoOrThree s r q ts

pub optional_kid : (s r q : Sort) (ts : List Tree) → fits_front (s ∷ r ∷ []) (Optional q) (map tag_of ts) ≡ true → TwoOrThree s r q ts
optional_kid s r q [] e = absurd (cc)
optional_kid s r q (a ∷ []) e = let rest = (and_parts (admits s (tag_of a)) false e).1 in absurd (cc)
optional_kid s r q (a ∷ b ∷ []) e =
    let parts = and_parts (admits s (tag_of a)) (admits r (tag_of b) && true) e in
    two (record { a = a; b = b; is = refl; first = parts.0; second = (and_parts (admits r (tag_of b)) true parts.1).0 })
optional_kid s r q (a ∷ b ∷ d ∷ []) e =
    let parts = and_parts (admits s (tag_of a)) (admits r (tag_of b) && admits q (tag_of d)) e in
    let rest = and_parts (admits r (tag_of b)) (admits q (tag_of d)) parts.1 in
    three (record { a = a; b = b; d = d; is = refl; first = parts.0; second = rest.0; third = rest.1 })
optional_kid s r q (a ∷ b ∷ d ∷ x ∷ ts) e =
    let parts = and_parts (admits s (tag_of a)) (admits r (tag_of b) && false) e in
    let rest = and_parts (admits r (tag_of b)) false parts.1 in
    let last = rest.1 in absurd (cc)

abbrev pub AllOf : Sort → List Tree → Type 0
AllOf s ts = AllByRecursion (λ (t : Tree). admits s (tag_of t) ≡ true) ts

pub all_of_sort : (s : Sort) (ts : List Tree) → list_all (admits s) (map tag_of ts) ≡ true → AllOf s ts
all_of_sort s [] e = tt
all_of_sort s (t ∷ ts) e = let parts = and_parts (admits s (tag_of t)) (list_all (admits s) (map tag_of ts)) e in (parts.0, all_of_sort s ts parts.1)

pub set_kids : (s : Sort) (least : ℕ) (ts : List Tree) → fits_rest (Set s least) (map tag_of ts) ≡ true → AllOf s ts
set_kids s least ts e = all_of_sort s ts (and_parts _ (list_all (admits s) (map tag_of ts)) e).1

-- as many as have to be written

pub record TwoAtLeast (ts : List Tree) : Type 0 where
  pub a : Tree
  pub b : Tree
  pub others : List Tree
  pub is : ts ≡ a ∷ b ∷ others

pub two_at_least : (ts : List Tree) → 2 ≤ length ts → TwoAtLeast ts
two_at_least [] h = absurd (omega arith)
two_at_least (a ∷ []) h = absurd (omega arith)
two_at_least (a ∷ b ∷ ts) h = record { a = a; b = b; others = ts; is = refl }

pub record OneAtLeast (ts : List Tree) : Type 0 where
  pub a : Tree
  pub others : List Tree
  pub is : ts ≡ a ∷ others

pub one_at_least : (ts : List Tree) → 1 ≤ length ts → OneAtLeast ts
one_at_least [] h = absurd (omega arith)
one_at_least (a ∷ ts) h = record { a = a; others = ts; is = refl }

-- ---- properties

object_node : (t : Tag) (ts : List Tag) → IsNodeOf sort.ObjectPropertyExpression t ts → t ≡ tag.ObjectInverseOf
unfolding admits row_of number_of
object_node tag.ObjectInverseOf ts e = refl
object_node _ ts e = absurd (cc)

object_leaf : (t : Tag) (a : Atom) → leaves.IsLeafOf sort.ObjectPropertyExpression t a → leaves.IsLeafOf sort.ObjectProperty t a
unfolding admits row_of number_of
object_leaf tag.ObjectProperty a e = e
object_leaf _ a e = absurd (cc)

named_object : (t : Tree) → IsLeafAt place.ObjectName t → IsPropertyOf objects t
named_object _ (IsLeafAt.name_leaf _ _ _ iri IsNameAt.object_name is) = object_property iri is
named_object _ (IsLeafAt.iri_leaf _ t iri at ok) = elim at [ ]
named_object _ (IsLeafAt.label_leaf _ label at ok) = elim at [ ]
named_object _ (IsLeafAt.literal_leaf _ value at ok) = elim at [ ]

inverse_of : (t : Tree) → IsLeafAt place.ObjectName t → IsPropertyOf objects (node tag.ObjectInverseOf (kids_of (t ∷ [])))
inverse_of _ (IsLeafAt.name_leaf _ _ _ iri IsNameAt.object_name is) = inverse_property iri is
inverse_of _ (IsLeafAt.iri_leaf _ t iri at ok) = elim at [ ]
inverse_of _ (IsLeafAt.label_leaf _ label at ok) = elim at [ ]
inverse_of _ (IsLeafAt.literal_leaf _ value at ok) = elim at [ ]

named_data : (t : Tree) → IsLeafAt place.Data t → IsPropertyOf datas t
named_data _ (IsLeafAt.name_leaf _ _ _ iri IsNameAt.data_property is) = data_property iri is
named_data _ (IsLeafAt.iri_leaf _ t iri at ok) = elim at [ ]
named_data _ (IsLeafAt.label_leaf _ label at ok) = elim at [ ]
named_data _ (IsLeafAt.literal_leaf _ value at ok) = elim at [ ]

abbrev pub side_sort : Side → Sort
side_sort objects = sort.ObjectPropertyExpression
side_sort datas = sort.DataPropertyExpression

inverse_at : (t : Tag) (ks : Kids) → t ≡ tag.ObjectInverseOf → fits (row_of t) (map tag_of (list_of ks)) ≡ true → AreShaped ks → IsPropertyOf objects (node t ks)
unfolding row_of
inverse_at t no_kids e f shaped = let g : fits (row_of tag.ObjectInverseOf) [] ≡ true = subst (λ (u : Tag). fits (row_of u) [] ≡ true) e f in absurd (cc)
inverse_at t (kid a no_kids) e f shaped =
    let one = one_kid sort.ObjectProperty (a ∷ []) (subst (λ (u : Tag). fits (row_of u) (tag_of a ∷ []) ≡ true) e f) in
    let same : a ≡ one.a = cc in
    subst (λ (u : Tag). IsPropertyOf objects (node u (kid a no_kids))) (sym e) (inverse_of a (object_name_at a (subst (λ (x : Tree). admits sort.ObjectProperty (tag_of x) ≡ true) (sym same) one.first) shaped.0))
inverse_at t (kid a (kid b ks)) e f shaped =
    let g = subst (λ (u : Tag). fits (row_of u) (tag_of a ∷ tag_of b ∷ map tag_of (list_of ks)) ≡ true) e f in
    let rest = (and_parts (admits sort.ObjectProperty (tag_of a)) false g).1 in absurd (cc)

pub property_at : (s : Side) (t : Tree) → admits (side_sort s) (tag_of t) ≡ true → IsShaped t → IsPropertyOf s t
property_at objects (leaf t a) e shaped =
    let both = object_leaf t a (and_from (admits sort.ObjectPropertyExpression t) _ e shaped.0) in
    named_object (leaf t a) (leaves.object_name_leaf t a both shaped.1)
property_at objects (node t ks) e shaped = inverse_at t ks (object_node t (map tag_of (list_of ks)) (and_from (admits sort.ObjectPropertyExpression t) _ e shaped.0.row)) shaped.0.row shaped.1
property_at datas t e shaped = named_data t (data_at t e shaped)
