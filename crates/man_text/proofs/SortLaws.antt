-- Which tags are of which sort: leaves that stand at a place, and nodes by their forms.
use Rattle.std.proofs.Common.{◌≡◌, true, List}
use Rattle.std.specs.Prelude.{◌&&◌}
use Rattle.man_resolve.specs.declared.place.Place.{Place}
use Rattle.man_resolve.specs.declared.place.Place.TheVariants as place
use Rattle.owl_kind.specs.declared.kind.Kind.TheVariants as kind
use Rattle.owl_tree.specs.Atoms.{IsAtom}
use Rattle.owl_tree.specs.declared.atom.Atom.{Atom}
use Rattle.owl_tree.specs.declared.atom.Atom.TheVariants as atom
use Rattle.owl_tree.specs.declared.row.Sort.{Sort}
use Rattle.owl_tree.specs.declared.row.Sort.TheVariants as sort
use Rattle.owl_tree.specs.declared.tag.Tag.{Tag}
use Rattle.owl_tree.specs.declared.tag.Tag.TheVariants as tag
use Rattle.owl_tree.specs.Rows.{admits, fits, row_of, takes}
use Rattle.owl_tree.specs.Tags.{number_of}
use Rattle.owl_tree.specs.Trees.{leaf}
use Rattle.man_text.proofs.ExpressionLaws.{IsComplement, IsConnected, IsCounted, IsEnumeration, IsIriAt, IsLabelAt, IsLeafAt, IsLiteralAt, IsNameAt, IsQuantified, IsValued, Side, class_and, class_not, class_or, data_exactly, data_max, data_min, data_only, data_some, data_value, datas, object_exactly, object_max, object_min, object_only, object_some, object_value, objects, of_individuals, of_literals, range_and, range_not, range_or}

-- the sort of what stands at a place, where the place tells it
abbrev pub sort_at : Place → Sort
sort_at place.Class = sort.ClassExpression
sort_at place.ClassName = sort.Class
sort_at place.Range = sort.DataRange
sort_at place.Datatype = sort.Datatype
sort_at place.Object = sort.ObjectPropertyExpression
sort_at place.ObjectName = sort.ObjectProperty
sort_at place.Data = sort.DataPropertyExpression
sort_at place.AnnotationProperty = sort.AnnotationProperty
sort_at place.Individual = sort.Individual
sort_at place.Value = sort.AnnotationValue
sort_at place.Iri = sort.Iri
sort_at place.Literal = sort.Literal
sort_at place.Number = sort.Number
sort_at _ = sort.Notes

-- the tag is of the sort, and a leaf with the atom may have it
abbrev pub IsLeafOf : Sort → Tag → Atom → Type 0
IsLeafOf s t a = (admits s t && takes (row_of t) a) ≡ true

pub class_leaf : (t : Tag) (a : Atom) → IsLeafOf sort.ClassExpression t a → IsAtom a → IsLeafAt place.Class (leaf t a)
unfolding admits row_of number_of
class_leaf tag.Class (atom.Iri iri) e is = IsLeafAt.name_leaf place.Class tag.Class kind.Class iri IsNameAt.class is
class_leaf _ _ e is = absurd (cc)

pub class_name_leaf : (t : Tag) (a : Atom) → IsLeafOf sort.Class t a → IsAtom a → IsLeafAt place.ClassName (leaf t a)
unfolding admits row_of number_of
class_name_leaf tag.Class (atom.Iri iri) e is = IsLeafAt.name_leaf place.ClassName tag.Class kind.Class iri IsNameAt.class_name is
class_name_leaf _ _ e is = absurd (cc)

pub range_leaf : (t : Tag) (a : Atom) → IsLeafOf sort.DataRange t a → IsAtom a → IsLeafAt place.Range (leaf t a)
unfolding admits row_of number_of
range_leaf tag.Datatype (atom.Iri iri) e is = IsLeafAt.name_leaf place.Range tag.Datatype kind.Datatype iri IsNameAt.range is
range_leaf _ _ e is = absurd (cc)

pub datatype_leaf : (t : Tag) (a : Atom) → IsLeafOf sort.Datatype t a → IsAtom a → IsLeafAt place.Datatype (leaf t a)
unfolding admits row_of number_of
datatype_leaf tag.Datatype (atom.Iri iri) e is = IsLeafAt.name_leaf place.Datatype tag.Datatype kind.Datatype iri IsNameAt.datatype is
datatype_leaf _ _ e is = absurd (cc)

pub object_name_leaf : (t : Tag) (a : Atom) → IsLeafOf sort.ObjectProperty t a → IsAtom a → IsLeafAt place.ObjectName (leaf t a)
unfolding admits row_of number_of
object_name_leaf tag.ObjectProperty (atom.Iri iri) e is = IsLeafAt.name_leaf place.ObjectName tag.ObjectProperty kind.ObjectProperty iri IsNameAt.object_name is
object_name_leaf _ _ e is = absurd (cc)

pub data_leaf : (t : Tag) (a : Atom) → IsLeafOf sort.DataPropertyExpression t a → IsAtom a → IsLeafAt place.Data (leaf t a)
unfolding admits row_of number_of
data_leaf tag.DataProperty (atom.Iri iri) e is = IsLeafAt.name_leaf place.Data tag.DataProperty kind.DataProperty iri IsNameAt.data_property is
data_leaf _ _ e is = absurd (cc)

pub annotation_property_leaf : (t : Tag) (a : Atom) → IsLeafOf sort.AnnotationProperty t a → IsAtom a → IsLeafAt place.AnnotationProperty (leaf t a)
unfolding admits row_of number_of
annotation_property_leaf tag.AnnotationProperty (atom.Iri iri) e is = IsLeafAt.name_leaf place.AnnotationProperty tag.AnnotationProperty kind.AnnotationProperty iri IsNameAt.annotation_property is
annotation_property_leaf _ _ e is = absurd (cc)

pub individual_leaf : (t : Tag) (a : Atom) → IsLeafOf sort.Individual t a → IsAtom a → IsLeafAt place.Individual (leaf t a)
unfolding admits row_of number_of
individual_leaf tag.NamedIndividual (atom.Iri iri) e is = IsLeafAt.iri_leaf place.Individual tag.NamedIndividual iri IsIriAt.named_individual is
individual_leaf tag.Anonymous (atom.Label label) e is = IsLeafAt.label_leaf place.Individual label IsLabelAt.individual_label is
individual_leaf _ _ e is = absurd (cc)

pub value_leaf : (t : Tag) (a : Atom) → IsLeafOf sort.AnnotationValue t a → IsAtom a → IsLeafAt place.Value (leaf t a)
unfolding admits row_of number_of
value_leaf tag.PlainIri (atom.Iri iri) e is = IsLeafAt.iri_leaf place.Value tag.PlainIri iri IsIriAt.value_iri is
value_leaf tag.Anonymous (atom.Label label) e is = IsLeafAt.label_leaf place.Value label IsLabelAt.value_label is
value_leaf tag.Literal (atom.Literal value) e is = IsLeafAt.literal_leaf place.Value value IsLiteralAt.value_literal is
value_leaf _ _ e is = absurd (cc)

pub iri_leaf : (t : Tag) (a : Atom) → IsLeafOf sort.Iri t a → IsAtom a → IsLeafAt place.Iri (leaf t a)
unfolding admits row_of number_of
iri_leaf tag.PlainIri (atom.Iri iri) e is = IsLeafAt.iri_leaf place.Iri tag.PlainIri iri IsIriAt.plain_iri is
iri_leaf _ _ e is = absurd (cc)

pub literal_leaf : (t : Tag) (a : Atom) → IsLeafOf sort.Literal t a → IsAtom a → IsLeafAt place.Literal (leaf t a)
unfolding admits row_of number_of
literal_leaf tag.Literal (atom.Literal value) e is = IsLeafAt.literal_leaf place.Literal value IsLiteralAt.literal is
literal_leaf _ _ e is = absurd (cc)

pub number_leaf : (t : Tag) (a : Atom) → IsLeafOf sort.Number t a → IsAtom a → IsLeafAt place.Number (leaf t a)
unfolding admits row_of number_of
number_leaf tag.Number (atom.Number n) e is = IsLeafAt.number_leaf n is
number_leaf _ _ e is = absurd (cc)

-- ---- nodes

-- the form of a class expression, or of a data range
pub data IsNodeAt : Place → Tag → Type 0 where
  connective : (p : Place) (t : Tag) → IsConnected p t → IsNodeAt p t
  complement : (p : Place) (t : Tag) → IsComplement p t → IsNodeAt p t
  enumeration : (p q : Place) (t : Tag) → IsEnumeration p q t → IsNodeAt p t
  restricted : IsNodeAt place.Range tag.DatatypeRestriction
  quantifier : (s : Side) (t : Tag) → IsQuantified s t → IsNodeAt place.Class t
  valued : (s : Side) (t : Tag) → IsValued s t → IsNodeAt place.Class t
  has_self : IsNodeAt place.Class tag.ObjectHasSelf
  cardinality : (s : Side) (t : Tag) → IsCounted s t → IsNodeAt place.Class t

-- the tag is of the sort, and a node with these kids may have it
abbrev pub IsNodeOf : Sort → Tag → List Tag → Type 0
IsNodeOf s t ts = (admits s t && fits (row_of t) ts) ≡ true

pub class_node : (t : Tag) (ts : List Tag) → IsNodeOf sort.ClassExpression t ts → IsNodeAt place.Class t
unfolding admits row_of number_of
class_node tag.ObjectIntersectionOf ts e = connective place.Class _ class_and
class_node tag.ObjectUnionOf ts e = connective place.Class _ class_or
class_node tag.ObjectComplementOf ts e = complement place.Class _ class_not
class_node tag.ObjectOneOf ts e = enumeration place.Class place.Individual _ of_individuals
class_node tag.ObjectSomeValuesFrom ts e = quantifier objects _ object_some
class_node tag.ObjectAllValuesFrom ts e = quantifier objects _ object_only
class_node tag.ObjectHasValue ts e = valued objects _ object_value
class_node tag.ObjectHasSelf ts e = has_self
class_node tag.ObjectMinCardinality ts e = cardinality objects _ object_min
class_node tag.ObjectMaxCardinality ts e = cardinality objects _ object_max
class_node tag.ObjectExactCardinality ts e = cardinality objects _ object_exactly
class_node tag.DataSomeValuesFrom ts e = quantifier datas _ data_some
class_node tag.DataAllValuesFrom ts e = quantifier datas _ data_only
class_node tag.DataHasValue ts e = valued datas _ data_value
class_node tag.DataMinCardinality ts e = cardinality datas _ data_min
class_node tag.DataMaxCardinality ts e = cardinality datas _ data_max
class_node tag.DataExactCardinality ts e = cardinality datas _ data_exactly
class_node _ ts e = absurd (cc)

pub range_node : (t : Tag) (ts : List Tag) → IsNodeOf sort.DataRange t ts → IsNodeAt place.Range t
unfolding admits row_of number_of
range_node tag.DataIntersectionOf ts e = connective place.Range _ range_and
range_node tag.DataUnionOf ts e = connective place.Range _ range_or
range_node tag.DataComplementOf ts e = complement place.Range _ range_not
range_node tag.DataOneOf ts e = enumeration place.Range place.Literal _ of_literals
range_node tag.DatatypeRestriction ts e = restricted
range_node _ ts e = absurd (cc)
