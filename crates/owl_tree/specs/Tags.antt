-- The tags of trees, and their names (Structural Specification, sections 5 to 10).
use Rattle.std.specs.Prelude.{ℕ, Bool, List, [], ◌∷◌, get_or, nat_le, codes}
use Rattle.owl_tree.specs.declared.tag.Tag.{Tag}
use Rattle.owl_tree.specs.declared.tag.Tag.TheVariants.{Class, Datatype, ObjectProperty, DataProperty, AnnotationProperty, NamedIndividual, Anonymous, PlainIri, Literal, Number, Facet, ObjectInverseOf, ObjectPropertyChain, ObjectIntersectionOf, ObjectUnionOf, ObjectComplementOf, ObjectOneOf, ObjectSomeValuesFrom, ObjectAllValuesFrom, ObjectHasValue, ObjectHasSelf, ObjectMinCardinality, ObjectMaxCardinality, ObjectExactCardinality, DataSomeValuesFrom, DataAllValuesFrom, DataHasValue, DataMinCardinality, DataMaxCardinality, DataExactCardinality, DataIntersectionOf, DataUnionOf, DataComplementOf, DataOneOf, DatatypeRestriction, FacetPair, ObjectKeys, DataKeys, Annotation, Notes, Declaration, SubClassOf, EquivalentClasses, DisjointClasses, DisjointUnion, SubObjectPropertyOf, EquivalentObjectProperties, DisjointObjectProperties, InverseObjectProperties, ObjectPropertyDomain, ObjectPropertyRange, FunctionalObjectProperty, InverseFunctionalObjectProperty, ReflexiveObjectProperty, IrreflexiveObjectProperty, SymmetricObjectProperty, AsymmetricObjectProperty, TransitiveObjectProperty, SubDataPropertyOf, EquivalentDataProperties, DisjointDataProperties, DataPropertyDomain, DataPropertyRange, FunctionalDataProperty, DatatypeDefinition, HasKey, SameIndividual, DifferentIndividuals, ClassAssertion, ObjectPropertyAssertion, NegativeObjectPropertyAssertion, DataPropertyAssertion, NegativeDataPropertyAssertion, AnnotationAssertion, SubAnnotationPropertyOf, AnnotationPropertyDomain, AnnotationPropertyRange}

unfoldable pub number_of : Tag → ℕ
number_of Class = 1
number_of Datatype = 2
number_of ObjectProperty = 3
number_of DataProperty = 4
number_of AnnotationProperty = 5
number_of NamedIndividual = 6
number_of Anonymous = 7
number_of PlainIri = 8
number_of Literal = 9
number_of Number = 10
number_of Facet = 11
number_of ObjectInverseOf = 12
number_of ObjectPropertyChain = 13
number_of ObjectIntersectionOf = 14
number_of ObjectUnionOf = 15
number_of ObjectComplementOf = 16
number_of ObjectOneOf = 17
number_of ObjectSomeValuesFrom = 18
number_of ObjectAllValuesFrom = 19
number_of ObjectHasValue = 20
number_of ObjectHasSelf = 21
number_of ObjectMinCardinality = 22
number_of ObjectMaxCardinality = 23
number_of ObjectExactCardinality = 24
number_of DataSomeValuesFrom = 25
number_of DataAllValuesFrom = 26
number_of DataHasValue = 27
number_of DataMinCardinality = 28
number_of DataMaxCardinality = 29
number_of DataExactCardinality = 30
number_of DataIntersectionOf = 31
number_of DataUnionOf = 32
number_of DataComplementOf = 33
number_of DataOneOf = 34
number_of DatatypeRestriction = 35
number_of FacetPair = 36
number_of ObjectKeys = 37
number_of DataKeys = 38
number_of Annotation = 39
number_of Notes = 40
number_of Declaration = 41
number_of SubClassOf = 42
number_of EquivalentClasses = 43
number_of DisjointClasses = 44
number_of DisjointUnion = 45
number_of SubObjectPropertyOf = 46
number_of EquivalentObjectProperties = 47
number_of DisjointObjectProperties = 48
number_of InverseObjectProperties = 49
number_of ObjectPropertyDomain = 50
number_of ObjectPropertyRange = 51
number_of FunctionalObjectProperty = 52
number_of InverseFunctionalObjectProperty = 53
number_of ReflexiveObjectProperty = 54
number_of IrreflexiveObjectProperty = 55
number_of SymmetricObjectProperty = 56
number_of AsymmetricObjectProperty = 57
number_of TransitiveObjectProperty = 58
number_of SubDataPropertyOf = 59
number_of EquivalentDataProperties = 60
number_of DisjointDataProperties = 61
number_of DataPropertyDomain = 62
number_of DataPropertyRange = 63
number_of FunctionalDataProperty = 64
number_of DatatypeDefinition = 65
number_of HasKey = 66
number_of SameIndividual = 67
number_of DifferentIndividuals = 68
number_of ClassAssertion = 69
number_of ObjectPropertyAssertion = 70
number_of NegativeObjectPropertyAssertion = 71
number_of DataPropertyAssertion = 72
number_of NegativeDataPropertyAssertion = 73
number_of AnnotationAssertion = 74
number_of SubAnnotationPropertyOf = 75
number_of AnnotationPropertyDomain = 76
number_of AnnotationPropertyRange = 77

-- the tag's name is its keyword
unfoldable pub keyword_of : Tag → List ℕ
keyword_of Class = codes "Class"
keyword_of Datatype = codes "Datatype"
keyword_of ObjectProperty = codes "ObjectProperty"
keyword_of DataProperty = codes "DataProperty"
keyword_of AnnotationProperty = codes "AnnotationProperty"
keyword_of NamedIndividual = codes "NamedIndividual"
keyword_of Anonymous = codes "Anonymous"
keyword_of PlainIri = codes "PlainIri"
keyword_of Literal = codes "Literal"
keyword_of Number = codes "Number"
keyword_of Facet = codes "Facet"
keyword_of ObjectInverseOf = codes "ObjectInverseOf"
keyword_of ObjectPropertyChain = codes "ObjectPropertyChain"
keyword_of ObjectIntersectionOf = codes "ObjectIntersectionOf"
keyword_of ObjectUnionOf = codes "ObjectUnionOf"
keyword_of ObjectComplementOf = codes "ObjectComplementOf"
keyword_of ObjectOneOf = codes "ObjectOneOf"
keyword_of ObjectSomeValuesFrom = codes "ObjectSomeValuesFrom"
keyword_of ObjectAllValuesFrom = codes "ObjectAllValuesFrom"
keyword_of ObjectHasValue = codes "ObjectHasValue"
keyword_of ObjectHasSelf = codes "ObjectHasSelf"
keyword_of ObjectMinCardinality = codes "ObjectMinCardinality"
keyword_of ObjectMaxCardinality = codes "ObjectMaxCardinality"
keyword_of ObjectExactCardinality = codes "ObjectExactCardinality"
keyword_of DataSomeValuesFrom = codes "DataSomeValuesFrom"
keyword_of DataAllValuesFrom = codes "DataAllValuesFrom"
keyword_of DataHasValue = codes "DataHasValue"
keyword_of DataMinCardinality = codes "DataMinCardinality"
keyword_of DataMaxCardinality = codes "DataMaxCardinality"
keyword_of DataExactCardinality = codes "DataExactCardinality"
keyword_of DataIntersectionOf = codes "DataIntersectionOf"
keyword_of DataUnionOf = codes "DataUnionOf"
keyword_of DataComplementOf = codes "DataComplementOf"
keyword_of DataOneOf = codes "DataOneOf"
keyword_of DatatypeRestriction = codes "DatatypeRestriction"
keyword_of FacetPair = codes "FacetPair"
keyword_of ObjectKeys = codes "ObjectKeys"
keyword_of DataKeys = codes "DataKeys"
keyword_of Annotation = codes "Annotation"
keyword_of Notes = codes "Notes"
keyword_of Declaration = codes "Declaration"
keyword_of SubClassOf = codes "SubClassOf"
keyword_of EquivalentClasses = codes "EquivalentClasses"
keyword_of DisjointClasses = codes "DisjointClasses"
keyword_of DisjointUnion = codes "DisjointUnion"
keyword_of SubObjectPropertyOf = codes "SubObjectPropertyOf"
keyword_of EquivalentObjectProperties = codes "EquivalentObjectProperties"
keyword_of DisjointObjectProperties = codes "DisjointObjectProperties"
keyword_of InverseObjectProperties = codes "InverseObjectProperties"
keyword_of ObjectPropertyDomain = codes "ObjectPropertyDomain"
keyword_of ObjectPropertyRange = codes "ObjectPropertyRange"
keyword_of FunctionalObjectProperty = codes "FunctionalObjectProperty"
keyword_of InverseFunctionalObjectProperty = codes "InverseFunctionalObjectProperty"
keyword_of ReflexiveObjectProperty = codes "ReflexiveObjectProperty"
keyword_of IrreflexiveObjectProperty = codes "IrreflexiveObjectProperty"
keyword_of SymmetricObjectProperty = codes "SymmetricObjectProperty"
keyword_of AsymmetricObjectProperty = codes "AsymmetricObjectProperty"
keyword_of TransitiveObjectProperty = codes "TransitiveObjectProperty"
keyword_of SubDataPropertyOf = codes "SubDataPropertyOf"
keyword_of EquivalentDataProperties = codes "EquivalentDataProperties"
keyword_of DisjointDataProperties = codes "DisjointDataProperties"
keyword_of DataPropertyDomain = codes "DataPropertyDomain"
keyword_of DataPropertyRange = codes "DataPropertyRange"
keyword_of FunctionalDataProperty = codes "FunctionalDataProperty"
keyword_of DatatypeDefinition = codes "DatatypeDefinition"
keyword_of HasKey = codes "HasKey"
keyword_of SameIndividual = codes "SameIndividual"
keyword_of DifferentIndividuals = codes "DifferentIndividuals"
keyword_of ClassAssertion = codes "ClassAssertion"
keyword_of ObjectPropertyAssertion = codes "ObjectPropertyAssertion"
keyword_of NegativeObjectPropertyAssertion = codes "NegativeObjectPropertyAssertion"
keyword_of DataPropertyAssertion = codes "DataPropertyAssertion"
keyword_of NegativeDataPropertyAssertion = codes "NegativeDataPropertyAssertion"
keyword_of AnnotationAssertion = codes "AnnotationAssertion"
keyword_of SubAnnotationPropertyOf = codes "SubAnnotationPropertyOf"
keyword_of AnnotationPropertyDomain = codes "AnnotationPropertyDomain"
keyword_of AnnotationPropertyRange = codes "AnnotationPropertyRange"

-- from Declaration on
abbrev pub is_axiom : Tag → Bool
is_axiom tag = nat_le (number_of Declaration) (number_of tag)

-- the tags in the order of their numbers
unfoldable pub all_tags : List Tag
all_tags =
    Class ∷ Datatype ∷ ObjectProperty ∷ DataProperty ∷ AnnotationProperty ∷ NamedIndividual ∷ Anonymous ∷ PlainIri ∷
    Literal ∷ Number ∷ Facet ∷ ObjectInverseOf ∷ ObjectPropertyChain ∷ ObjectIntersectionOf ∷ ObjectUnionOf ∷
    ObjectComplementOf ∷ ObjectOneOf ∷ ObjectSomeValuesFrom ∷ ObjectAllValuesFrom ∷ ObjectHasValue ∷ ObjectHasSelf ∷
    ObjectMinCardinality ∷ ObjectMaxCardinality ∷ ObjectExactCardinality ∷ DataSomeValuesFrom ∷ DataAllValuesFrom ∷
    DataHasValue ∷ DataMinCardinality ∷ DataMaxCardinality ∷ DataExactCardinality ∷ DataIntersectionOf ∷
    DataUnionOf ∷ DataComplementOf ∷ DataOneOf ∷ DatatypeRestriction ∷ FacetPair ∷ ObjectKeys ∷ DataKeys ∷
    Annotation ∷ Notes ∷ Declaration ∷ SubClassOf ∷ EquivalentClasses ∷ DisjointClasses ∷ DisjointUnion ∷
    SubObjectPropertyOf ∷ EquivalentObjectProperties ∷ DisjointObjectProperties ∷ InverseObjectProperties ∷
    ObjectPropertyDomain ∷ ObjectPropertyRange ∷ FunctionalObjectProperty ∷ InverseFunctionalObjectProperty ∷
    ReflexiveObjectProperty ∷ IrreflexiveObjectProperty ∷ SymmetricObjectProperty ∷ AsymmetricObjectProperty ∷
    TransitiveObjectProperty ∷ SubDataPropertyOf ∷ EquivalentDataProperties ∷ DisjointDataProperties ∷
    DataPropertyDomain ∷ DataPropertyRange ∷ FunctionalDataProperty ∷ DatatypeDefinition ∷ HasKey ∷ SameIndividual ∷
    DifferentIndividuals ∷ ClassAssertion ∷ ObjectPropertyAssertion ∷ NegativeObjectPropertyAssertion ∷
    DataPropertyAssertion ∷ NegativeDataPropertyAssertion ∷ AnnotationAssertion ∷ SubAnnotationPropertyOf ∷
    AnnotationPropertyDomain ∷ AnnotationPropertyRange ∷ []

-- the tags whose keywords have a length, by that length
unfoldable pub tags_by_length : List (List Tag)
tags_by_length =
    [] ∷ [] ∷ [] ∷ [] ∷ [] ∷ (Class ∷ Facet ∷ Notes ∷ []) ∷ (HasKey ∷ Number ∷ []) ∷ (Literal ∷
    []) ∷ (Datatype ∷ PlainIri ∷ DataKeys ∷ []) ∷ (Anonymous ∷ DataOneOf ∷ FacetPair ∷ []) ∷
    (SubClassOf ∷ Annotation ∷ ObjectKeys ∷ []) ∷ (Declaration ∷ ObjectOneOf ∷ DataUnionOf ∷ []) ∷
    (DataProperty ∷ DataHasValue ∷ []) ∷ (ObjectUnionOf ∷ ObjectHasSelf ∷ DisjointUnion ∷ []) ∷
    (ObjectProperty ∷ ClassAssertion ∷ ObjectHasValue ∷ SameIndividual ∷ []) ∷ (NamedIndividual ∷
    DisjointClasses ∷ ObjectInverseOf ∷ []) ∷ (DataComplementOf ∷ []) ∷ (EquivalentClasses ∷
    SubDataPropertyOf ∷ DataPropertyRange ∷ DataAllValuesFrom ∷ []) ∷ (AnnotationProperty ∷
    DataSomeValuesFrom ∷ ObjectComplementOf ∷ DataMinCardinality ∷ DataMaxCardinality ∷
    DataIntersectionOf ∷ DataPropertyDomain ∷ DatatypeDefinition ∷ []) ∷ (AnnotationAssertion ∷
    SubObjectPropertyOf ∷ DatatypeRestriction ∷ ObjectAllValuesFrom ∷ ObjectPropertyChain ∷
    ObjectPropertyRange ∷ []) ∷ (ObjectSomeValuesFrom ∷ ObjectIntersectionOf ∷
    ObjectMinCardinality ∷ ObjectMaxCardinality ∷ DifferentIndividuals ∷ ObjectPropertyDomain ∷
    DataExactCardinality ∷ []) ∷ (DataPropertyAssertion ∷ []) ∷ (FunctionalDataProperty ∷
    ObjectExactCardinality ∷ DisjointDataProperties ∷ []) ∷ (ObjectPropertyAssertion ∷
    InverseObjectProperties ∷ SubAnnotationPropertyOf ∷ ReflexiveObjectProperty ∷
    SymmetricObjectProperty ∷ AnnotationPropertyRange ∷ []) ∷ (TransitiveObjectProperty ∷
    FunctionalObjectProperty ∷ DisjointObjectProperties ∷ AsymmetricObjectProperty ∷
    EquivalentDataProperties ∷ AnnotationPropertyDomain ∷ []) ∷ (IrreflexiveObjectProperty ∷ []) ∷
    (EquivalentObjectProperties ∷ []) ∷ [] ∷ [] ∷ (NegativeDataPropertyAssertion ∷ []) ∷ [] ∷
    (InverseFunctionalObjectProperty ∷ NegativeObjectPropertyAssertion ∷ []) ∷ []

abbrev pub with_length : ℕ → List Tag
with_length n = get_or tags_by_length n []
