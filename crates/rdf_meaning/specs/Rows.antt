-- The rows of the mapping (Mapping to RDF Graphs, sections 2 and 3): one for each way in which an expression is written as a blank
-- node, and one for each in which an axiom is written, as a triple or as a blank node. Both ways of the mapping go by them.
use Rattle.std.specs.Prelude.{List, [], ◌∷◌}
use Rattle.owl_tree.specs.declared.tag.Tag.{Tag}
use Rattle.owl_tree.specs.declared.tag.Tag.TheVariants as tag
use Rattle.owl_tree.specs.declared.row.Sort.TheVariants as sort
use Rattle.rdf_meaning.specs.declared.word.Word.TheVariants as word
use Rattle.rdf_meaning.specs.declared.role.Role.TheVariants as role
use Rattle.rdf_meaning.specs.declared.row.Place.{Place}
use Rattle.rdf_meaning.specs.declared.row.Place.TheVariants.{At, Subject, Predicate, Object}
use Rattle.rdf_meaning.specs.declared.row.Want.{Want}
use Rattle.rdf_meaning.specs.declared.row.Want.TheVariants.{One, Many, Whole, Keys, Declared, Mark, True}
use Rattle.rdf_meaning.specs.declared.row.Part.{Part}
use Rattle.rdf_meaning.specs.declared.row.Site.{Site}
use Rattle.rdf_meaning.specs.declared.row.Site.TheVariants.{Node, TypedBy, OtherType, LinkedBy, OtherLink}
use Rattle.rdf_meaning.specs.declared.row.Row as held

-- A tree of the tag, but for its annotations, is written at such a site. Its parts stand in the order of its kids.
pub record Row : Type 0 where
  pub tag : Tag
  pub site : Site
  pub parts : List Part

abbrev part : Place → Want → Part
part place want = record { place = place; want = want }

abbrev row : Tag → Site → List Part → Row
row tag site parts = record { tag = tag; site = site; parts = parts }

-- the row that the program has
abbrev pub row_seen : held.Row → Row
row_seen row = record { tag = row.tag; site = row.site; parts = row.parts.now }

-- expressions (tables 1 and 2 of section 2.1, and tables 13 to 15 of section 3.2)
unfoldable pub node_rows : List Row
node_rows =
    row tag.ObjectInverseOf (Node role.Property) (part (At word.InverseOf) (One sort.ObjectProperty) ∷ []) ∷
    row tag.ObjectIntersectionOf (Node role.Class) (part (At word.Class) Mark ∷ part (At word.IntersectionOf) (Many sort.ClassExpression 2) ∷ []) ∷
    row tag.ObjectUnionOf (Node role.Class) (part (At word.Class) Mark ∷ part (At word.UnionOf) (Many sort.ClassExpression 2) ∷ []) ∷
    row tag.ObjectComplementOf (Node role.Class) (part (At word.Class) Mark ∷ part (At word.ComplementOf) (One sort.ClassExpression) ∷ []) ∷
    row tag.ObjectOneOf (Node role.Class) (part (At word.Class) Mark ∷ part (At word.OneOf) (Many sort.Individual 1) ∷ []) ∷
    row tag.ObjectSomeValuesFrom (Node role.Class) (part (At word.Restriction) Mark ∷ part (At word.OnProperty) (One sort.ObjectPropertyExpression) ∷ part (At word.SomeValuesFrom) (One sort.ClassExpression) ∷ []) ∷
    row tag.ObjectAllValuesFrom (Node role.Class) (part (At word.Restriction) Mark ∷ part (At word.OnProperty) (One sort.ObjectPropertyExpression) ∷ part (At word.AllValuesFrom) (One sort.ClassExpression) ∷ []) ∷
    row tag.ObjectHasValue (Node role.Class) (part (At word.Restriction) Mark ∷ part (At word.OnProperty) (One sort.ObjectPropertyExpression) ∷ part (At word.HasValue) (One sort.Individual) ∷ []) ∷
    row tag.ObjectHasSelf (Node role.Class) (part (At word.Restriction) Mark ∷ part (At word.OnProperty) (One sort.ObjectPropertyExpression) ∷ part (At word.HasSelf) True ∷ []) ∷
    row tag.ObjectMinCardinality (Node role.Class) (part (At word.Restriction) Mark ∷ part (At word.MinCardinality) (One sort.Number) ∷ part (At word.OnProperty) (One sort.ObjectPropertyExpression) ∷ []) ∷
    row tag.ObjectMinCardinality (Node role.Class) (part (At word.Restriction) Mark ∷ part (At word.MinQualifiedCardinality) (One sort.Number) ∷ part (At word.OnProperty) (One sort.ObjectPropertyExpression) ∷ part (At word.OnClass) (One sort.ClassExpression) ∷ []) ∷
    row tag.ObjectMaxCardinality (Node role.Class) (part (At word.Restriction) Mark ∷ part (At word.MaxCardinality) (One sort.Number) ∷ part (At word.OnProperty) (One sort.ObjectPropertyExpression) ∷ []) ∷
    row tag.ObjectMaxCardinality (Node role.Class) (part (At word.Restriction) Mark ∷ part (At word.MaxQualifiedCardinality) (One sort.Number) ∷ part (At word.OnProperty) (One sort.ObjectPropertyExpression) ∷ part (At word.OnClass) (One sort.ClassExpression) ∷ []) ∷
    row tag.ObjectExactCardinality (Node role.Class) (part (At word.Restriction) Mark ∷ part (At word.Cardinality) (One sort.Number) ∷ part (At word.OnProperty) (One sort.ObjectPropertyExpression) ∷ []) ∷
    row tag.ObjectExactCardinality (Node role.Class) (part (At word.Restriction) Mark ∷ part (At word.QualifiedCardinality) (One sort.Number) ∷ part (At word.OnProperty) (One sort.ObjectPropertyExpression) ∷ part (At word.OnClass) (One sort.ClassExpression) ∷ []) ∷
    row tag.DataSomeValuesFrom (Node role.Class) (part (At word.Restriction) Mark ∷ part (At word.OnProperty) (One sort.DataPropertyExpression) ∷ part (At word.SomeValuesFrom) (One sort.DataRange) ∷ []) ∷
    row tag.DataSomeValuesFrom (Node role.Class) (part (At word.Restriction) Mark ∷ part (At word.OnProperties) (Many sort.DataPropertyExpression 1) ∷ part (At word.SomeValuesFrom) (One sort.DataRange) ∷ []) ∷
    row tag.DataAllValuesFrom (Node role.Class) (part (At word.Restriction) Mark ∷ part (At word.OnProperty) (One sort.DataPropertyExpression) ∷ part (At word.AllValuesFrom) (One sort.DataRange) ∷ []) ∷
    row tag.DataAllValuesFrom (Node role.Class) (part (At word.Restriction) Mark ∷ part (At word.OnProperties) (Many sort.DataPropertyExpression 1) ∷ part (At word.AllValuesFrom) (One sort.DataRange) ∷ []) ∷
    row tag.DataHasValue (Node role.Class) (part (At word.Restriction) Mark ∷ part (At word.OnProperty) (One sort.DataPropertyExpression) ∷ part (At word.HasValue) (One sort.Literal) ∷ []) ∷
    row tag.DataMinCardinality (Node role.Class) (part (At word.Restriction) Mark ∷ part (At word.MinCardinality) (One sort.Number) ∷ part (At word.OnProperty) (One sort.DataPropertyExpression) ∷ []) ∷
    row tag.DataMinCardinality (Node role.Class) (part (At word.Restriction) Mark ∷ part (At word.MinQualifiedCardinality) (One sort.Number) ∷ part (At word.OnProperty) (One sort.DataPropertyExpression) ∷ part (At word.OnDataRange) (One sort.DataRange) ∷ []) ∷
    row tag.DataMaxCardinality (Node role.Class) (part (At word.Restriction) Mark ∷ part (At word.MaxCardinality) (One sort.Number) ∷ part (At word.OnProperty) (One sort.DataPropertyExpression) ∷ []) ∷
    row tag.DataMaxCardinality (Node role.Class) (part (At word.Restriction) Mark ∷ part (At word.MaxQualifiedCardinality) (One sort.Number) ∷ part (At word.OnProperty) (One sort.DataPropertyExpression) ∷ part (At word.OnDataRange) (One sort.DataRange) ∷ []) ∷
    row tag.DataExactCardinality (Node role.Class) (part (At word.Restriction) Mark ∷ part (At word.Cardinality) (One sort.Number) ∷ part (At word.OnProperty) (One sort.DataPropertyExpression) ∷ []) ∷
    row tag.DataExactCardinality (Node role.Class) (part (At word.Restriction) Mark ∷ part (At word.QualifiedCardinality) (One sort.Number) ∷ part (At word.OnProperty) (One sort.DataPropertyExpression) ∷ part (At word.OnDataRange) (One sort.DataRange) ∷ []) ∷
    row tag.DataIntersectionOf (Node role.Range) (part (At word.Datatype) Mark ∷ part (At word.IntersectionOf) (Many sort.DataRange 2) ∷ []) ∷
    row tag.DataUnionOf (Node role.Range) (part (At word.Datatype) Mark ∷ part (At word.UnionOf) (Many sort.DataRange 2) ∷ []) ∷
    row tag.DataComplementOf (Node role.Range) (part (At word.Datatype) Mark ∷ part (At word.DatatypeComplementOf) (One sort.DataRange) ∷ []) ∷
    row tag.DataOneOf (Node role.Range) (part (At word.Datatype) Mark ∷ part (At word.OneOf) (Many sort.Literal 1) ∷ []) ∷
    row tag.DatatypeRestriction (Node role.Range) (part (At word.Datatype) Mark ∷ part (At word.OnDatatype) (One sort.Datatype) ∷ part (At word.WithRestrictions) (Many sort.FacetPair 1) ∷ []) ∷
    []

-- axioms (table 1 of section 2.1, and tables 16 and 17 of section 3.2)
unfoldable pub axiom_rows : List Row
axiom_rows =
    row tag.Declaration (TypedBy word.Class) (part Subject (Declared tag.Class) ∷ []) ∷
    row tag.Declaration (TypedBy word.Datatype) (part Subject (Declared tag.Datatype) ∷ []) ∷
    row tag.Declaration (TypedBy word.ObjectProperty) (part Subject (Declared tag.ObjectProperty) ∷ []) ∷
    row tag.Declaration (TypedBy word.DatatypeProperty) (part Subject (Declared tag.DataProperty) ∷ []) ∷
    row tag.Declaration (TypedBy word.AnnotationProperty) (part Subject (Declared tag.AnnotationProperty) ∷ []) ∷
    row tag.Declaration (TypedBy word.NamedIndividual) (part Subject (Declared tag.NamedIndividual) ∷ []) ∷
    row tag.SubClassOf (LinkedBy word.SubClassOf) (part Subject (One sort.ClassExpression) ∷ part Object (One sort.ClassExpression) ∷ []) ∷
    row tag.EquivalentClasses (LinkedBy word.EquivalentClass) (part Subject (One sort.ClassExpression) ∷ part Object (One sort.ClassExpression) ∷ []) ∷
    row tag.DisjointClasses (LinkedBy word.DisjointWith) (part Subject (One sort.ClassExpression) ∷ part Object (One sort.ClassExpression) ∷ []) ∷
    row tag.DisjointClasses (Node role.Main) (part (At word.AllDisjointClasses) Mark ∷ part (At word.Members) (Many sort.ClassExpression 2) ∷ []) ∷
    row tag.DisjointUnion (LinkedBy word.DisjointUnionOf) (part Subject (One sort.Class) ∷ part Object (Many sort.ClassExpression 2) ∷ []) ∷
    row tag.SubObjectPropertyOf (LinkedBy word.SubPropertyOf) (part Subject (One sort.ObjectPropertyExpression) ∷ part Object (One sort.ObjectPropertyExpression) ∷ []) ∷
    row tag.SubObjectPropertyOf (LinkedBy word.PropertyChainAxiom) (part Object (Whole tag.ObjectPropertyChain sort.ObjectPropertyExpression 2) ∷ part Subject (One sort.ObjectPropertyExpression) ∷ []) ∷
    row tag.EquivalentObjectProperties (LinkedBy word.EquivalentProperty) (part Subject (One sort.ObjectPropertyExpression) ∷ part Object (One sort.ObjectPropertyExpression) ∷ []) ∷
    row tag.DisjointObjectProperties (LinkedBy word.PropertyDisjointWith) (part Subject (One sort.ObjectPropertyExpression) ∷ part Object (One sort.ObjectPropertyExpression) ∷ []) ∷
    row tag.DisjointObjectProperties (Node role.Main) (part (At word.AllDisjointProperties) Mark ∷ part (At word.Members) (Many sort.ObjectPropertyExpression 2) ∷ []) ∷
    row tag.InverseObjectProperties (LinkedBy word.InverseOf) (part Subject (One sort.ObjectPropertyExpression) ∷ part Object (One sort.ObjectPropertyExpression) ∷ []) ∷
    row tag.ObjectPropertyDomain (LinkedBy word.Domain) (part Subject (One sort.ObjectPropertyExpression) ∷ part Object (One sort.ClassExpression) ∷ []) ∷
    row tag.ObjectPropertyRange (LinkedBy word.Range) (part Subject (One sort.ObjectPropertyExpression) ∷ part Object (One sort.ClassExpression) ∷ []) ∷
    row tag.FunctionalObjectProperty (TypedBy word.FunctionalProperty) (part Subject (One sort.ObjectPropertyExpression) ∷ []) ∷
    row tag.InverseFunctionalObjectProperty (TypedBy word.InverseFunctionalProperty) (part Subject (One sort.ObjectPropertyExpression) ∷ []) ∷
    row tag.ReflexiveObjectProperty (TypedBy word.ReflexiveProperty) (part Subject (One sort.ObjectPropertyExpression) ∷ []) ∷
    row tag.IrreflexiveObjectProperty (TypedBy word.IrreflexiveProperty) (part Subject (One sort.ObjectPropertyExpression) ∷ []) ∷
    row tag.SymmetricObjectProperty (TypedBy word.SymmetricProperty) (part Subject (One sort.ObjectPropertyExpression) ∷ []) ∷
    row tag.AsymmetricObjectProperty (TypedBy word.AsymmetricProperty) (part Subject (One sort.ObjectPropertyExpression) ∷ []) ∷
    row tag.TransitiveObjectProperty (TypedBy word.TransitiveProperty) (part Subject (One sort.ObjectPropertyExpression) ∷ []) ∷
    row tag.SubDataPropertyOf (LinkedBy word.SubPropertyOf) (part Subject (One sort.DataPropertyExpression) ∷ part Object (One sort.DataPropertyExpression) ∷ []) ∷
    row tag.EquivalentDataProperties (LinkedBy word.EquivalentProperty) (part Subject (One sort.DataPropertyExpression) ∷ part Object (One sort.DataPropertyExpression) ∷ []) ∷
    row tag.DisjointDataProperties (LinkedBy word.PropertyDisjointWith) (part Subject (One sort.DataPropertyExpression) ∷ part Object (One sort.DataPropertyExpression) ∷ []) ∷
    row tag.DisjointDataProperties (Node role.Main) (part (At word.AllDisjointProperties) Mark ∷ part (At word.Members) (Many sort.DataPropertyExpression 2) ∷ []) ∷
    row tag.DataPropertyDomain (LinkedBy word.Domain) (part Subject (One sort.DataPropertyExpression) ∷ part Object (One sort.ClassExpression) ∷ []) ∷
    row tag.DataPropertyRange (LinkedBy word.Range) (part Subject (One sort.DataPropertyExpression) ∷ part Object (One sort.DataRange) ∷ []) ∷
    row tag.FunctionalDataProperty (TypedBy word.FunctionalProperty) (part Subject (One sort.DataPropertyExpression) ∷ []) ∷
    row tag.DatatypeDefinition (LinkedBy word.EquivalentClass) (part Subject (One sort.Datatype) ∷ part Object (One sort.DataRange) ∷ []) ∷
    row tag.HasKey (LinkedBy word.HasKey) (part Subject (One sort.ClassExpression) ∷ part Object Keys ∷ []) ∷
    row tag.SameIndividual (LinkedBy word.SameAs) (part Subject (One sort.Individual) ∷ part Object (One sort.Individual) ∷ []) ∷
    row tag.DifferentIndividuals (LinkedBy word.DifferentFrom) (part Subject (One sort.Individual) ∷ part Object (One sort.Individual) ∷ []) ∷
    row tag.DifferentIndividuals (Node role.Main) (part (At word.AllDifferent) Mark ∷ part (At word.Members) (Many sort.Individual 2) ∷ []) ∷
    row tag.DifferentIndividuals (Node role.Main) (part (At word.AllDifferent) Mark ∷ part (At word.DistinctMembers) (Many sort.Individual 2) ∷ []) ∷
    row tag.ClassAssertion OtherType (part Object (One sort.ClassExpression) ∷ part Subject (One sort.Individual) ∷ []) ∷
    row tag.ObjectPropertyAssertion OtherLink (part Predicate (One sort.ObjectProperty) ∷ part Subject (One sort.Individual) ∷ part Object (One sort.Individual) ∷ []) ∷
    row tag.NegativeObjectPropertyAssertion (Node role.Main) (part (At word.NegativePropertyAssertion) Mark ∷ part (At word.AssertionProperty) (One sort.ObjectPropertyExpression) ∷ part (At word.SourceIndividual) (One sort.Individual) ∷ part (At word.TargetIndividual) (One sort.Individual) ∷ []) ∷
    row tag.DataPropertyAssertion OtherLink (part Predicate (One sort.DataPropertyExpression) ∷ part Subject (One sort.Individual) ∷ part Object (One sort.Literal) ∷ []) ∷
    row tag.NegativeDataPropertyAssertion (Node role.Main) (part (At word.NegativePropertyAssertion) Mark ∷ part (At word.AssertionProperty) (One sort.DataPropertyExpression) ∷ part (At word.SourceIndividual) (One sort.Individual) ∷ part (At word.TargetValue) (One sort.Literal) ∷ []) ∷
    row tag.AnnotationAssertion OtherLink (part Predicate (One sort.AnnotationProperty) ∷ part Subject (One sort.AnnotationSubject) ∷ part Object (One sort.AnnotationValue) ∷ []) ∷
    row tag.SubAnnotationPropertyOf (LinkedBy word.SubPropertyOf) (part Subject (One sort.AnnotationProperty) ∷ part Object (One sort.AnnotationProperty) ∷ []) ∷
    row tag.AnnotationPropertyDomain (LinkedBy word.Domain) (part Subject (One sort.AnnotationProperty) ∷ part Object (One sort.Iri) ∷ []) ∷
    row tag.AnnotationPropertyRange (LinkedBy word.Range) (part Subject (One sort.AnnotationProperty) ∷ part Object (One sort.Iri) ∷ []) ∷
    []
