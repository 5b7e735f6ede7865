-- What stands below each tag (Structural Specification, sections 5 to 10).
use Rattle.std.specs.Prelude.{ℕ, Bool, true, false, ◌&&◌, ◌||◌, nat_eq, nat_le, min, List, [], ◌∷◌, length, Option, None, Some}
use Rattle.std.specs.List.{list_all}
use Rattle.owl_tree.specs.declared.tag.Tag.{Tag}
use Rattle.owl_tree.specs.declared.tag.Tag.TheVariants as tag
use Rattle.owl_tree.specs.declared.atom.Atom.{Atom}
use Rattle.owl_tree.specs.declared.atom.Atom.TheVariants as held_atom
use Rattle.owl_tree.specs.declared.row.AtomSort.{AtomSort}
use Rattle.owl_tree.specs.declared.row.AtomSort.TheVariants as atom
use Rattle.owl_tree.specs.declared.row.Sort.{Sort}
use Rattle.owl_tree.specs.declared.row.Sort.TheVariants.{Notes, Annotation, AnnotationProperty, AnnotationSubject, AnnotationValue, Iri, ClassExpression, Class, DataRange, Datatype, ObjectPropertyExpression, ObjectProperty, SubObjectPropertyExpression, DataPropertyExpression, Individual, Literal, Number, Facet, FacetPair, ObjectKeys, DataKeys, Entity}
use Rattle.owl_tree.specs.declared.row.Rest.{Rest}
use Rattle.owl_tree.specs.declared.row.Rest.TheVariants.{Nothing, Optional, AtLeast, SomeThen, Set}
use Rattle.owl_tree.specs.declared.row.Row as held
use Rattle.owl_tree.specs.declared.row.Row.TheVariants as code
use Rattle.owl_tree.specs.Tags.{number_of}

-- The tag is of leaves with such an atom; or of nodes, with kids of these sorts in front, in order, and then the rest.
pub data Row : Type 0 where
  Leaf : AtomSort → Row
  Node : List Sort → Rest → Row

-- the row that the program has
abbrev pub row_seen : held.Row → Row
row_seen (code.Leaf sort) = Leaf sort
row_seen (code.Node front rest) = Node front.now rest

unfoldable pub row_of : Tag → Row
row_of tag.Class = Leaf atom.Iri
row_of tag.Datatype = Leaf atom.Iri
row_of tag.ObjectProperty = Leaf atom.Iri
row_of tag.DataProperty = Leaf atom.Iri
row_of tag.AnnotationProperty = Leaf atom.Iri
row_of tag.NamedIndividual = Leaf atom.Iri
row_of tag.Anonymous = Leaf atom.Label
row_of tag.PlainIri = Leaf atom.Iri
row_of tag.Literal = Leaf atom.Literal
row_of tag.Number = Leaf atom.Number
row_of tag.Facet = Leaf atom.Iri
row_of tag.ObjectInverseOf = Node (ObjectProperty ∷ []) Nothing
row_of tag.ObjectPropertyChain = Node [] (AtLeast ObjectPropertyExpression 2)
row_of tag.ObjectIntersectionOf = Node [] (Set ClassExpression 2)
row_of tag.ObjectUnionOf = Node [] (Set ClassExpression 2)
row_of tag.ObjectComplementOf = Node (ClassExpression ∷ []) Nothing
row_of tag.ObjectOneOf = Node [] (Set Individual 1)
row_of tag.ObjectSomeValuesFrom = Node (ObjectPropertyExpression ∷ ClassExpression ∷ []) Nothing
row_of tag.ObjectAllValuesFrom = Node (ObjectPropertyExpression ∷ ClassExpression ∷ []) Nothing
row_of tag.ObjectHasValue = Node (ObjectPropertyExpression ∷ Individual ∷ []) Nothing
row_of tag.ObjectHasSelf = Node (ObjectPropertyExpression ∷ []) Nothing
row_of tag.ObjectMinCardinality = Node (Number ∷ ObjectPropertyExpression ∷ []) (Optional ClassExpression)
row_of tag.ObjectMaxCardinality = Node (Number ∷ ObjectPropertyExpression ∷ []) (Optional ClassExpression)
row_of tag.ObjectExactCardinality = Node (Number ∷ ObjectPropertyExpression ∷ []) (Optional ClassExpression)
row_of tag.DataSomeValuesFrom = Node [] (SomeThen DataPropertyExpression DataRange)
row_of tag.DataAllValuesFrom = Node [] (SomeThen DataPropertyExpression DataRange)
row_of tag.DataHasValue = Node (DataPropertyExpression ∷ Literal ∷ []) Nothing
row_of tag.DataMinCardinality = Node (Number ∷ DataPropertyExpression ∷ []) (Optional DataRange)
row_of tag.DataMaxCardinality = Node (Number ∷ DataPropertyExpression ∷ []) (Optional DataRange)
row_of tag.DataExactCardinality = Node (Number ∷ DataPropertyExpression ∷ []) (Optional DataRange)
row_of tag.DataIntersectionOf = Node [] (Set DataRange 2)
row_of tag.DataUnionOf = Node [] (Set DataRange 2)
row_of tag.DataComplementOf = Node (DataRange ∷ []) Nothing
row_of tag.DataOneOf = Node [] (Set Literal 1)
row_of tag.DatatypeRestriction = Node (Datatype ∷ []) (Set FacetPair 1)
row_of tag.FacetPair = Node (Facet ∷ Literal ∷ []) Nothing
row_of tag.ObjectKeys = Node [] (Set ObjectPropertyExpression 0)
row_of tag.DataKeys = Node [] (Set DataPropertyExpression 0)
row_of tag.Annotation = Node (Notes ∷ AnnotationProperty ∷ AnnotationValue ∷ []) Nothing
row_of tag.Notes = Node [] (Set Annotation 0)
row_of tag.Declaration = Node (Notes ∷ Entity ∷ []) Nothing
row_of tag.SubClassOf = Node (Notes ∷ ClassExpression ∷ ClassExpression ∷ []) Nothing
row_of tag.EquivalentClasses = Node (Notes ∷ []) (Set ClassExpression 2)
row_of tag.DisjointClasses = Node (Notes ∷ []) (Set ClassExpression 2)
row_of tag.DisjointUnion = Node (Notes ∷ Class ∷ []) (Set ClassExpression 2)
row_of tag.SubObjectPropertyOf = Node (Notes ∷ SubObjectPropertyExpression ∷ ObjectPropertyExpression ∷ []) Nothing
row_of tag.EquivalentObjectProperties = Node (Notes ∷ []) (Set ObjectPropertyExpression 2)
row_of tag.DisjointObjectProperties = Node (Notes ∷ []) (Set ObjectPropertyExpression 2)
row_of tag.InverseObjectProperties = Node (Notes ∷ []) (Set ObjectPropertyExpression 2)
row_of tag.ObjectPropertyDomain = Node (Notes ∷ ObjectPropertyExpression ∷ ClassExpression ∷ []) Nothing
row_of tag.ObjectPropertyRange = Node (Notes ∷ ObjectPropertyExpression ∷ ClassExpression ∷ []) Nothing
row_of tag.FunctionalObjectProperty = Node (Notes ∷ ObjectPropertyExpression ∷ []) Nothing
row_of tag.InverseFunctionalObjectProperty = Node (Notes ∷ ObjectPropertyExpression ∷ []) Nothing
row_of tag.ReflexiveObjectProperty = Node (Notes ∷ ObjectPropertyExpression ∷ []) Nothing
row_of tag.IrreflexiveObjectProperty = Node (Notes ∷ ObjectPropertyExpression ∷ []) Nothing
row_of tag.SymmetricObjectProperty = Node (Notes ∷ ObjectPropertyExpression ∷ []) Nothing
row_of tag.AsymmetricObjectProperty = Node (Notes ∷ ObjectPropertyExpression ∷ []) Nothing
row_of tag.TransitiveObjectProperty = Node (Notes ∷ ObjectPropertyExpression ∷ []) Nothing
row_of tag.SubDataPropertyOf = Node (Notes ∷ DataPropertyExpression ∷ DataPropertyExpression ∷ []) Nothing
row_of tag.EquivalentDataProperties = Node (Notes ∷ []) (Set DataPropertyExpression 2)
row_of tag.DisjointDataProperties = Node (Notes ∷ []) (Set DataPropertyExpression 2)
row_of tag.DataPropertyDomain = Node (Notes ∷ DataPropertyExpression ∷ ClassExpression ∷ []) Nothing
row_of tag.DataPropertyRange = Node (Notes ∷ DataPropertyExpression ∷ DataRange ∷ []) Nothing
row_of tag.FunctionalDataProperty = Node (Notes ∷ DataPropertyExpression ∷ []) Nothing
row_of tag.DatatypeDefinition = Node (Notes ∷ Datatype ∷ DataRange ∷ []) Nothing
row_of tag.HasKey = Node (Notes ∷ ClassExpression ∷ ObjectKeys ∷ DataKeys ∷ []) Nothing
row_of tag.SameIndividual = Node (Notes ∷ []) (Set Individual 2)
row_of tag.DifferentIndividuals = Node (Notes ∷ []) (Set Individual 2)
row_of tag.ClassAssertion = Node (Notes ∷ ClassExpression ∷ Individual ∷ []) Nothing
row_of tag.ObjectPropertyAssertion = Node (Notes ∷ ObjectPropertyExpression ∷ Individual ∷ Individual ∷ []) Nothing
row_of tag.NegativeObjectPropertyAssertion = Node (Notes ∷ ObjectPropertyExpression ∷ Individual ∷ Individual ∷ []) Nothing
row_of tag.DataPropertyAssertion = Node (Notes ∷ DataPropertyExpression ∷ Individual ∷ Literal ∷ []) Nothing
row_of tag.NegativeDataPropertyAssertion = Node (Notes ∷ DataPropertyExpression ∷ Individual ∷ Literal ∷ []) Nothing
row_of tag.AnnotationAssertion = Node (Notes ∷ AnnotationProperty ∷ AnnotationSubject ∷ AnnotationValue ∷ []) Nothing
row_of tag.SubAnnotationPropertyOf = Node (Notes ∷ AnnotationProperty ∷ AnnotationProperty ∷ []) Nothing
row_of tag.AnnotationPropertyDomain = Node (Notes ∷ AnnotationProperty ∷ Iri ∷ []) Nothing
row_of tag.AnnotationPropertyRange = Node (Notes ∷ AnnotationProperty ∷ Iri ∷ []) Nothing

-- from the one tag to the other, in order of their numbers
abbrev pub is_from_to : Tag → Tag → Tag → Bool
is_from_to first last t = nat_le (number_of first) (number_of t) && nat_le (number_of t) (number_of last)

abbrev pub is_tag : Tag → Tag → Bool
is_tag u t = nat_eq (number_of u) (number_of t)

-- annotations of an axiom, and a facet with its value: their parts stand without a keyword and without brackets
abbrev pub is_bare : Tag → Bool
is_bare t = is_tag tag.Notes t || is_tag tag.FacetPair t

-- the two groups of a HasKey stand in brackets without a keyword
abbrev pub is_group : Tag → Bool
is_group t = is_tag tag.ObjectKeys t || is_tag tag.DataKeys t

-- a tree of the sort may have the tag
unfoldable pub admits : Sort → Tag → Bool
admits Notes t = is_tag tag.Notes t
admits Annotation t = is_tag tag.Annotation t
admits AnnotationProperty t = is_tag tag.AnnotationProperty t
admits AnnotationSubject t = is_tag tag.Anonymous t || is_tag tag.PlainIri t
admits AnnotationValue t = is_from_to tag.Anonymous tag.Literal t
admits Iri t = is_tag tag.PlainIri t
admits ClassExpression t = is_tag tag.Class t || is_from_to tag.ObjectIntersectionOf tag.DataExactCardinality t
admits Class t = is_tag tag.Class t
admits DataRange t = is_tag tag.Datatype t || is_from_to tag.DataIntersectionOf tag.DatatypeRestriction t
admits Datatype t = is_tag tag.Datatype t
admits ObjectPropertyExpression t = is_tag tag.ObjectProperty t || is_tag tag.ObjectInverseOf t
admits ObjectProperty t = is_tag tag.ObjectProperty t
admits SubObjectPropertyExpression t = is_tag tag.ObjectProperty t || is_from_to tag.ObjectInverseOf tag.ObjectPropertyChain t
admits DataPropertyExpression t = is_tag tag.DataProperty t
admits Individual t = is_from_to tag.NamedIndividual tag.Anonymous t
admits Literal t = is_tag tag.Literal t
admits Number t = is_tag tag.Number t
admits Facet t = is_tag tag.Facet t
admits FacetPair t = is_tag tag.FacetPair t
admits ObjectKeys t = is_tag tag.ObjectKeys t
admits DataKeys t = is_tag tag.DataKeys t
admits Entity t = is_from_to tag.Class tag.NamedIndividual t

-- one or more of the first sort, and then one of the second
abbrev pub ends_in : Sort → Sort → List Tag → Bool
ends_in sort last [] = false
ends_in sort last (t ∷ []) = false
ends_in sort last (t ∷ u ∷ []) = admits sort t && admits last u
ends_in sort last (t ∷ u ∷ v ∷ ts) = admits sort t && ends_in sort last (u ∷ v ∷ ts)

-- these tags may stand behind the front; of a set, whose members count once, at least one is there where any has to be written
abbrev pub fits_rest : Rest → List Tag → Bool
fits_rest Nothing [] = true
fits_rest Nothing (t ∷ ts) = false
fits_rest (Optional sort) [] = true
fits_rest (Optional sort) (t ∷ []) = admits sort t
fits_rest (Optional sort) (t ∷ u ∷ ts) = false
fits_rest (AtLeast sort least) ts = nat_le least (length ts) && list_all (admits sort) ts
fits_rest (SomeThen sort last) ts = ends_in sort last ts
fits_rest (Set sort least) ts = nat_le (min least 1) (length ts) && list_all (admits sort) ts

abbrev pub fits_front : List Sort → Rest → List Tag → Bool
fits_front [] rest ts = fits_rest rest ts
fits_front (sort ∷ front) rest [] = false
fits_front (sort ∷ front) rest (t ∷ ts) = admits sort t && fits_front front rest ts

-- a node of this row may have kids with these tags
abbrev pub fits : Row → List Tag → Bool
fits (Leaf sort) ts = false
fits (Node front rest) ts = fits_front front rest ts

-- where the kids of this row have a set part, how many stand before it
abbrev pub set_start : Row → Option ℕ
set_start (Leaf sort) = None
set_start (Node front Nothing) = None
set_start (Node front (Optional sort)) = None
set_start (Node front (AtLeast sort least)) = None
set_start (Node front (SomeThen sort last)) = None
set_start (Node front (Set sort least)) = Some (length front)

abbrev pub sort_of : Atom → AtomSort
sort_of (held_atom.Iri iri) = atom.Iri
sort_of (held_atom.Label label) = atom.Label
sort_of (held_atom.Literal literal) = atom.Literal
sort_of (held_atom.Number number) = atom.Number

-- the atom is of the sort
abbrev pub is_of_sort : AtomSort → Atom → Bool
is_of_sort atom.Iri (held_atom.Iri iri) = true
is_of_sort atom.Label (held_atom.Label label) = true
is_of_sort atom.Literal (held_atom.Literal literal) = true
is_of_sort atom.Number (held_atom.Number number) = true
is_of_sort _ _ = false

-- a leaf of this row may have the atom
abbrev pub takes : Row → Atom → Bool
takes (Leaf sort) a = is_of_sort sort a
takes (Node front rest) a = false
