-- What may stand at each place, what forms stand for there, and what the sections of items say (Manchester Syntax, sections 2.1 to 2.6).
use Rattle.std.specs.Prelude.{ℕ, List, [], ◌∷◌, Option, None, Some, codes}
use Rattle.man_raw.specs.declared.form.Characteristic.{Characteristic}
use Rattle.man_raw.specs.declared.form.Characteristic.TheVariants as word
use Rattle.man_raw.specs.declared.form.Facet.{Facet}
use Rattle.man_raw.specs.declared.form.Facet.TheVariants as facet
use Rattle.man_raw.specs.declared.form.Form.{Form}
use Rattle.man_raw.specs.declared.form.Form.TheVariants as form
use Rattle.man_raw.specs.declared.heading.Heading.{Heading}
use Rattle.man_raw.specs.declared.heading.Heading.TheVariants as heading
use Rattle.man_raw.specs.declared.heading.Section.{Section}
use Rattle.man_raw.specs.declared.heading.Section.TheVariants as section
use Rattle.owl_kind.specs.declared.kind.Kind.{Kind}
use Rattle.owl_kind.specs.declared.kind.Kind.TheVariants as kind
use Rattle.owl_tree.specs.declared.atom.Atom as held
use Rattle.owl_tree.specs.declared.atom.Atom.TheVariants as atom
use Rattle.owl_tree.specs.declared.tag.Tag.{Tag}
use Rattle.owl_tree.specs.declared.tag.Tag.TheVariants as tag
use Rattle.rdf_terms.specs.Vocabulary.{rdf, xsd}
use Rattle.man_resolve.specs.declared.place.Place.{Place}
use Rattle.man_resolve.specs.declared.place.Place.TheVariants as place
use Rattle.man_resolve.specs.declared.sentence.Sentence.{Sentence}
use Rattle.man_resolve.specs.declared.sentence.Sentence.TheVariants as sentence
use Rattle.man_resolve.specs.declared.shape.ByKind.{ByKind}
use Rattle.man_resolve.specs.declared.shape.Shape.{Shape}
use Rattle.man_resolve.specs.declared.shape.Shape.TheVariants as shape

-- ---- atoms

-- the tags of the leaves that an IRI may be there, in order
abbrev pub names_at : Place → List Tag
names_at place.Class = tag.Class ∷ []
names_at place.ClassName = tag.Class ∷ []
names_at place.Range = tag.Datatype ∷ []
names_at place.Datatype = tag.Datatype ∷ []
names_at place.Object = tag.ObjectProperty ∷ []
names_at place.ObjectName = tag.ObjectProperty ∷ []
names_at place.Data = tag.DataProperty ∷ []
names_at place.Property = tag.ObjectProperty ∷ tag.DataProperty ∷ []
names_at place.AnnotationProperty = tag.AnnotationProperty ∷ []
names_at place.Individual = tag.NamedIndividual ∷ []
names_at place.Value = tag.PlainIri ∷ []
names_at place.Iri = tag.PlainIri ∷ []
names_at _ = []

abbrev pub labels_at : Place → List Tag
labels_at place.Individual = tag.Anonymous ∷ []
labels_at place.Value = tag.Anonymous ∷ []
labels_at _ = []

abbrev pub literals_at : Place → List Tag
literals_at place.Literal = tag.Literal ∷ []
literals_at place.Value = tag.Literal ∷ []
literals_at _ = []

abbrev pub numbers_at : Place → List Tag
numbers_at place.Number = tag.Number ∷ []
numbers_at _ = []

-- the tags of the leaves that the atom may be there
unfoldable pub tags_at : Place → held.Atom → List Tag
tags_at p (atom.Iri iri) = names_at p
tags_at p (atom.Label label) = labels_at p
tags_at p (atom.Literal literal) = literals_at p
tags_at p (atom.Number number) = numbers_at p

-- the IRI of a facet (Manchester Syntax, section 2.3, and Structural Specification, section 4)
unfoldable pub facet_iri : Facet → List ℕ
facet_iri facet.AtMost = xsd (codes "maxInclusive")
facet_iri facet.LessThan = xsd (codes "maxExclusive")
facet_iri facet.AtLeast = xsd (codes "minInclusive")
facet_iri facet.MoreThan = xsd (codes "minExclusive")
facet_iri facet.Length = xsd (codes "length")
facet_iri facet.MinLength = xsd (codes "minLength")
facet_iri facet.MaxLength = xsd (codes "maxLength")
facet_iri facet.Pattern = xsd (codes "pattern")
facet_iri facet.LangRange = rdf (codes "langRange")

-- ---- forms

-- a node over parts that all stand at this place
abbrev pub over : Tag → Place → Shape
over t p = shape.Over t (record { first = p; second = p; others = p })

abbrev pub by_kind : Tag → Place → Tag → Place → ByKind
by_kind object_tag objects data_tag datas = record { object_tag = object_tag; objects = objects; data_tag = data_tag; datas = datas }

-- class expressions (section 2.4)
abbrev pub class_shape : Form → Shape
class_shape form.Or = over tag.ObjectUnionOf place.Class
class_shape form.And = over tag.ObjectIntersectionOf place.Class
class_shape form.That = over tag.ObjectIntersectionOf place.Class
class_shape form.Not = over tag.ObjectComplementOf place.Class
class_shape form.Individuals = over tag.ObjectOneOf place.Individual
class_shape form.Bracket = shape.Inside
class_shape form.SomeOf = shape.Restriction (by_kind tag.ObjectSomeValuesFrom place.Class tag.DataSomeValuesFrom place.Range)
class_shape form.OnlyOf = shape.Restriction (by_kind tag.ObjectAllValuesFrom place.Class tag.DataAllValuesFrom place.Range)
class_shape form.HasValue = shape.Restriction (by_kind tag.ObjectHasValue place.Individual tag.DataHasValue place.Literal)
class_shape form.HasSelf = over tag.ObjectHasSelf place.Object
class_shape form.Min = shape.Cardinality (by_kind tag.ObjectMinCardinality place.Class tag.DataMinCardinality place.Range)
class_shape form.Max = shape.Cardinality (by_kind tag.ObjectMaxCardinality place.Class tag.DataMaxCardinality place.Range)
class_shape form.Exactly = shape.Cardinality (by_kind tag.ObjectExactCardinality place.Class tag.DataExactCardinality place.Range)
class_shape _ = shape.Wrong

-- data ranges (section 2.3)
abbrev pub range_shape : Form → Shape
range_shape form.Or = over tag.DataUnionOf place.Range
range_shape form.And = over tag.DataIntersectionOf place.Range
range_shape form.That = over tag.DataIntersectionOf place.Range
range_shape form.Not = over tag.DataComplementOf place.Range
range_shape form.Literals = over tag.DataOneOf place.Literal
range_shape form.Restricted = shape.Over tag.DatatypeRestriction (record { first = place.Datatype; second = place.FacetPair; others = place.FacetPair })
range_shape form.Bracket = shape.Inside
range_shape _ = shape.Wrong

-- all others (sections 2.2 to 2.5)
abbrev pub other_shape : Place → Form → Shape
other_shape place.Object form.Inverse = over tag.ObjectInverseOf place.ObjectName
other_shape place.Property form.Inverse = over tag.ObjectInverseOf place.ObjectName
other_shape place.Chain form.List = over tag.ObjectPropertyChain place.Object
other_shape place.FacetPair form.FacetPair = shape.Over tag.FacetPair (record { first = place.Facet; second = place.Literal; others = place.Literal })
other_shape place.Notes form.Notes = over tag.Notes place.Note
other_shape place.Note form.Note = shape.Over tag.Annotation (record { first = place.Notes; second = place.AnnotationProperty; others = place.Value })
other_shape _ _ = shape.Wrong

unfoldable pub shape_of : Place → Form → Shape
shape_of place.Class f = class_shape f
shape_of place.Range f = range_shape f
shape_of p f = other_shape p f

-- ---- items

-- where the name of a frame stands; an item that is no frame has none
abbrev pub name_place : Heading → Option Place
name_place heading.Class = Some place.ClassName
name_place heading.Datatype = Some place.Datatype
name_place heading.ObjectProperty = Some place.ObjectName
name_place heading.DataProperty = Some place.Data
name_place heading.AnnotationProperty = Some place.AnnotationProperty
name_place heading.Individual = Some place.Individual
name_place _ = None

-- as what a frame declares its name
abbrev pub declared_kind : Heading → Option Kind
declared_kind heading.Class = Some kind.Class
declared_kind heading.Datatype = Some kind.Datatype
declared_kind heading.ObjectProperty = Some kind.ObjectProperty
declared_kind heading.DataProperty = Some kind.DataProperty
declared_kind heading.AnnotationProperty = Some kind.AnnotationProperty
declared_kind heading.Individual = Some kind.Individual
declared_kind _ = None

-- what an element of the section says behind its annotations (sections 2.5 and 2.6)
abbrev pub class_sentence : Section → Sentence
class_sentence section.Annotations = sentence.Note
class_sentence section.SubClassOf = sentence.Beside tag.SubClassOf place.Class
class_sentence section.EquivalentTo = sentence.Beside tag.EquivalentClasses place.Class
class_sentence section.DisjointWith = sentence.Beside tag.DisjointClasses place.Class
class_sentence section.DisjointUnionOf = sentence.Members tag.DisjointUnion place.Class
class_sentence section.HasKey = sentence.Key
class_sentence _ = sentence.Wrong

abbrev pub datatype_sentence : Section → Sentence
datatype_sentence section.Annotations = sentence.Note
datatype_sentence section.EquivalentTo = sentence.Beside tag.DatatypeDefinition place.Range
datatype_sentence _ = sentence.Wrong

abbrev pub object_property_sentence : Section → Sentence
object_property_sentence section.Annotations = sentence.Note
object_property_sentence section.Domain = sentence.Beside tag.ObjectPropertyDomain place.Class
object_property_sentence section.Range = sentence.Beside tag.ObjectPropertyRange place.Class
object_property_sentence section.Characteristics = sentence.Word
object_property_sentence section.SubPropertyOf = sentence.Beside tag.SubObjectPropertyOf place.Object
object_property_sentence section.EquivalentTo = sentence.Beside tag.EquivalentObjectProperties place.Object
object_property_sentence section.DisjointWith = sentence.Beside tag.DisjointObjectProperties place.Object
object_property_sentence section.InverseOf = sentence.Beside tag.InverseObjectProperties place.Object
object_property_sentence section.SubPropertyChain = sentence.Ahead tag.SubObjectPropertyOf place.Chain
object_property_sentence _ = sentence.Wrong

abbrev pub data_property_sentence : Section → Sentence
data_property_sentence section.Annotations = sentence.Note
data_property_sentence section.Domain = sentence.Beside tag.DataPropertyDomain place.Class
data_property_sentence section.Range = sentence.Beside tag.DataPropertyRange place.Range
data_property_sentence section.Characteristics = sentence.Word
data_property_sentence section.SubPropertyOf = sentence.Beside tag.SubDataPropertyOf place.Data
data_property_sentence section.EquivalentTo = sentence.Beside tag.EquivalentDataProperties place.Data
data_property_sentence section.DisjointWith = sentence.Beside tag.DisjointDataProperties place.Data
data_property_sentence _ = sentence.Wrong

abbrev pub annotation_property_sentence : Section → Sentence
annotation_property_sentence section.Annotations = sentence.Note
annotation_property_sentence section.Domain = sentence.Beside tag.AnnotationPropertyDomain place.Iri
annotation_property_sentence section.Range = sentence.Beside tag.AnnotationPropertyRange place.Iri
annotation_property_sentence section.SubPropertyOf = sentence.Beside tag.SubAnnotationPropertyOf place.AnnotationProperty
annotation_property_sentence _ = sentence.Wrong

abbrev pub individual_sentence : Section → Sentence
individual_sentence section.Annotations = sentence.Note
individual_sentence section.Types = sentence.Ahead tag.ClassAssertion place.Class
individual_sentence section.Facts = sentence.Fact
individual_sentence section.SameAs = sentence.Beside tag.SameIndividual place.Individual
individual_sentence section.DifferentFrom = sentence.Beside tag.DifferentIndividuals place.Individual
individual_sentence _ = sentence.Wrong

-- what an item that is no frame says
abbrev pub members_sentence : Heading → Sentence
members_sentence heading.EquivalentClasses = sentence.Members tag.EquivalentClasses place.Class
members_sentence heading.DisjointClasses = sentence.Members tag.DisjointClasses place.Class
members_sentence heading.EquivalentProperties = sentence.Properties (by_kind tag.EquivalentObjectProperties place.Object tag.EquivalentDataProperties place.Data)
members_sentence heading.DisjointProperties = sentence.Properties (by_kind tag.DisjointObjectProperties place.Object tag.DisjointDataProperties place.Data)
members_sentence heading.SameIndividual = sentence.Members tag.SameIndividual place.Individual
members_sentence heading.DifferentIndividuals = sentence.Members tag.DifferentIndividuals place.Individual
members_sentence _ = sentence.Wrong

abbrev pub other_sentence : Heading → Section → Sentence
other_sentence h section.Members = members_sentence h
other_sentence h _ = sentence.Wrong

unfoldable pub sentence_of : Heading → Section → Sentence
sentence_of heading.Class s = class_sentence s
sentence_of heading.Datatype s = datatype_sentence s
sentence_of heading.ObjectProperty s = object_property_sentence s
sentence_of heading.DataProperty s = data_property_sentence s
sentence_of heading.AnnotationProperty s = annotation_property_sentence s
sentence_of heading.Individual s = individual_sentence s
sentence_of h s = other_sentence h s

-- what the word says of an object property
abbrev pub object_word : Characteristic → Tag
object_word word.Functional = tag.FunctionalObjectProperty
object_word word.InverseFunctional = tag.InverseFunctionalObjectProperty
object_word word.Reflexive = tag.ReflexiveObjectProperty
object_word word.Irreflexive = tag.IrreflexiveObjectProperty
object_word word.Symmetric = tag.SymmetricObjectProperty
object_word word.Asymmetric = tag.AsymmetricObjectProperty
object_word word.Transitive = tag.TransitiveObjectProperty

-- what it says of a data property
abbrev pub data_word : Characteristic → Option Tag
data_word word.Functional = Some tag.FunctionalDataProperty
data_word _ = None

abbrev pub word_tag : Heading → Characteristic → Option Tag
word_tag heading.ObjectProperty w = Some (object_word w)
word_tag heading.DataProperty w = data_word w
word_tag _ w = None

-- what a fact says, and what it says behind `not`
abbrev pub fact_tags : ByKind
fact_tags = by_kind tag.ObjectPropertyAssertion place.Individual tag.DataPropertyAssertion place.Literal

abbrev pub negative_tags : ByKind
negative_tags = by_kind tag.NegativeObjectPropertyAssertion place.Individual tag.NegativeDataPropertyAssertion place.Literal
