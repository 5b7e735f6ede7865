-- Expressions and leaves by the places at which they stand, as many at once as are written alike.
use Rattle.std.specs.Prelude.{◌≡◌, ◌<◌, ◌^◌, ℕ, List, [], ◌∷◌, Some}
use Rattle.std.specs.List.{AllByRecursion}
use Rattle.man_raw.specs.declared.form.Facet.{Facet}
use Rattle.man_resolve.specs.declared.place.Place.{Place}
use Rattle.man_resolve.specs.declared.place.Place.TheVariants as place
use Rattle.owl_characters.specs.Iri.{IsIri}
use Rattle.owl_characters.specs.Names.{IsLabel}
use Rattle.owl_kind.specs.declared.kind.Kind.{Kind}
use Rattle.owl_kind.specs.declared.kind.Kind.TheVariants as kind
use Rattle.owl_tree.specs.declared.atom.Atom.TheVariants as atom
use Rattle.owl_tree.specs.declared.tag.Tag.{Tag}
use Rattle.owl_tree.specs.declared.tag.Tag.TheVariants as tag
use Rattle.owl_tree.specs.Trees.{Tree, kid, kids_of, leaf, no_kids, node}
use Rattle.rdf_terms.specs.Literals.{IsLiteral, LiteralParts}
use Rattle.man_sayable.specs.Facets.{facet_named}

-- ---- leaves

-- a name with this tag stands there, as this kind
pub data IsNameAt : Place → Tag → Kind → Type 0 where
  class : IsNameAt place.Class tag.Class kind.Class
  class_name : IsNameAt place.ClassName tag.Class kind.Class
  range : IsNameAt place.Range tag.Datatype kind.Datatype
  datatype : IsNameAt place.Datatype tag.Datatype kind.Datatype
  object : IsNameAt place.Object tag.ObjectProperty kind.ObjectProperty
  object_name : IsNameAt place.ObjectName tag.ObjectProperty kind.ObjectProperty
  data_property : IsNameAt place.Data tag.DataProperty kind.DataProperty
  annotation_property : IsNameAt place.AnnotationProperty tag.AnnotationProperty kind.AnnotationProperty

-- an IRI with this tag stands there, of whatever kind
pub data IsIriAt : Place → Tag → Type 0 where
  named_individual : IsIriAt place.Individual tag.NamedIndividual
  value_iri : IsIriAt place.Value tag.PlainIri
  plain_iri : IsIriAt place.Iri tag.PlainIri

-- so do labels, and literals
pub data IsLabelAt : Place → Type 0 where
  individual_label : IsLabelAt place.Individual
  value_label : IsLabelAt place.Value

pub data IsLiteralAt : Place → Type 0 where
  literal : IsLiteralAt place.Literal
  value_literal : IsLiteralAt place.Value

pub data IsLeafAt : Place → Tree → Type 0 where
  name_leaf : (p : Place) (t : Tag) (k : Kind) (iri : List ℕ) → IsNameAt p t k → IsIri iri → IsLeafAt p (leaf t (atom.Iri iri))
  iri_leaf : (p : Place) (t : Tag) (iri : List ℕ) → IsIriAt p t → IsIri iri → IsLeafAt p (leaf t (atom.Iri iri))
  label_leaf : (p : Place) (label : List ℕ) → IsLabelAt p → IsLabel label → IsLeafAt p (leaf tag.Anonymous (atom.Label label))
  literal_leaf : (p : Place) (value : LiteralParts) → IsLiteralAt p → IsLiteral value → IsLeafAt p (leaf tag.Literal (atom.Literal value))
  number_leaf : (n : ℕ) → n < 2 ^ 64 → IsLeafAt place.Number (leaf tag.Number (atom.Number n))

-- ---- properties

-- whose restrictions and assertions they are: those of object properties, or of data properties
pub data Side : Type 0 where
  objects datas : Side

pub data IsPropertyOf : Side → Tree → Type 0 where
  object_property : (iri : List ℕ) → IsIri iri → IsPropertyOf objects (leaf tag.ObjectProperty (atom.Iri iri))
  inverse_property : (iri : List ℕ) → IsIri iri → IsPropertyOf objects (node tag.ObjectInverseOf (kid (leaf tag.ObjectProperty (atom.Iri iri)) no_kids))
  data_property : (iri : List ℕ) → IsIri iri → IsPropertyOf datas (leaf tag.DataProperty (atom.Iri iri))

-- ---- class expressions and data ranges

pub data IsClassOrRange : Place → Type 0 where
  of_class : IsClassOrRange place.Class
  of_range : IsClassOrRange place.Range

pub data IsConnected : Place → Tag → Type 0 where
  class_and : IsConnected place.Class tag.ObjectIntersectionOf
  class_or : IsConnected place.Class tag.ObjectUnionOf
  range_and : IsConnected place.Range tag.DataIntersectionOf
  range_or : IsConnected place.Range tag.DataUnionOf

pub data IsComplement : Place → Tag → Type 0 where
  class_not : IsComplement place.Class tag.ObjectComplementOf
  range_not : IsComplement place.Range tag.DataComplementOf

-- the members stand at the second place
pub data IsEnumeration : Place → Place → Tag → Type 0 where
  of_individuals : IsEnumeration place.Class place.Individual tag.ObjectOneOf
  of_literals : IsEnumeration place.Range place.Literal tag.DataOneOf

pub data IsQuantified : Side → Tag → Type 0 where
  object_some : IsQuantified objects tag.ObjectSomeValuesFrom
  object_only : IsQuantified objects tag.ObjectAllValuesFrom
  data_some : IsQuantified datas tag.DataSomeValuesFrom
  data_only : IsQuantified datas tag.DataAllValuesFrom

pub data IsValued : Side → Tag → Type 0 where
  object_value : IsValued objects tag.ObjectHasValue
  data_value : IsValued datas tag.DataHasValue

pub data IsCounted : Side → Tag → Type 0 where
  object_min : IsCounted objects tag.ObjectMinCardinality
  object_max : IsCounted objects tag.ObjectMaxCardinality
  object_exactly : IsCounted objects tag.ObjectExactCardinality
  data_min : IsCounted datas tag.DataMinCardinality
  data_max : IsCounted datas tag.DataMaxCardinality
  data_exactly : IsCounted datas tag.DataExactCardinality

abbrev pub filler_place : Side → Place
filler_place objects = place.Class
filler_place datas = place.Range

abbrev pub value_place : Side → Place
value_place objects = place.Individual
value_place datas = place.Literal

pub data IsFacetPairTree : Tree → Type 0 where
  pair_of : (iri : List ℕ) (f : Facet) (value : LiteralParts) → facet_named iri ≡ Some f → IsLiteral value
      → IsFacetPairTree (node tag.FacetPair (kid (leaf tag.Facet (atom.Iri iri)) (kid (leaf tag.Literal (atom.Literal value)) no_kids)))

mutual
  pub data IsExpressionAt : Place → Tree → Type 0 where
    named : (p : Place) (t : Tree) → IsClassOrRange p → IsLeafAt p t → IsExpressionAt p t
    connected : (p : Place) (t : Tag) (a b : Tree) (ts : List Tree) → IsConnected p t → AreExpressionsAt p (a ∷ b ∷ ts) → IsExpressionAt p (node t (kids_of (a ∷ b ∷ ts)))
    complement : (p : Place) (t : Tag) (a : Tree) → IsComplement p t → IsExpressionAt p a → IsExpressionAt p (node t (kids_of (a ∷ [])))
    enumeration : (p q : Place) (t : Tag) (a : Tree) (ts : List Tree) → IsEnumeration p q t → AllByRecursion (IsLeafAt q) (a ∷ ts) → IsExpressionAt p (node t (kids_of (a ∷ ts)))
    restricted : (d a : Tree) (ts : List Tree) → IsLeafAt place.Datatype d → AllByRecursion IsFacetPairTree (a ∷ ts) → IsExpressionAt place.Range (node tag.DatatypeRestriction (kids_of (d ∷ a ∷ ts)))
    quantified : (s : Side) (t : Tag) (p a : Tree) → IsQuantified s t → IsPropertyOf s p → IsExpressionAt (filler_place s) a → IsExpressionAt place.Class (node t (kids_of (p ∷ a ∷ [])))
    valued : (s : Side) (t : Tag) (p a : Tree) → IsValued s t → IsPropertyOf s p → IsLeafAt (value_place s) a → IsExpressionAt place.Class (node t (kids_of (p ∷ a ∷ [])))
    self_of : (p : Tree) → IsPropertyOf objects p → IsExpressionAt place.Class (node tag.ObjectHasSelf (kids_of (p ∷ [])))
    counted : (s : Side) (t : Tag) (n p : Tree) → IsCounted s t → IsLeafAt place.Number n → IsPropertyOf s p → IsExpressionAt place.Class (node t (kids_of (n ∷ p ∷ [])))
    counted_of : (s : Side) (t : Tag) (n p a : Tree) → IsCounted s t → IsLeafAt place.Number n → IsPropertyOf s p → IsExpressionAt (filler_place s) a
        → IsExpressionAt place.Class (node t (kids_of (n ∷ p ∷ a ∷ [])))

  pub data AreExpressionsAt : Place → List Tree → Type 0 where
    no_expressions : (p : Place) → AreExpressionsAt p []
    expression : (p : Place) (t : Tree) (ts : List Tree) → IsExpressionAt p t → AreExpressionsAt p ts → AreExpressionsAt p (t ∷ ts)

-- ---- annotations

mutual
  pub data IsNotesTree : Tree → Type 0 where
    notes_of : (ts : List Tree) → AreNoteTrees ts → IsNotesTree (node tag.Notes (kids_of ts))

  pub data AreNoteTrees : List Tree → Type 0 where
    no_note : AreNoteTrees []
    note_of : (notes p v : Tree) (ts : List Tree) → IsNotesTree notes → IsLeafAt place.AnnotationProperty p → IsLeafAt place.Value v → AreNoteTrees ts
        → AreNoteTrees (node tag.Annotation (kids_of (notes ∷ p ∷ v ∷ [])) ∷ ts)
