-- The grammars of the profiles EL, QL and RL (OWL 2 Profiles, sections 2.2, 3.2 and 4.2), and what the profiles ask throughout an axiom.
use Rattle.std.specs.Prelude.{List, [], ◌∷◌, map}
use Rattle.owl_tree.specs.declared.tag.Tag.{Tag}
use Rattle.owl_tree.specs.declared.tag.Tag.TheVariants as tag
use Rattle.owl_tree.specs.declared.row.Sort.{Sort as Trees}
use Rattle.owl_tree.specs.declared.row.Sort.TheVariants as trees
use Rattle.profile_sorts.specs.declared.leaf_test.LeafTest.{LeafTest}
use Rattle.profile_sorts.specs.declared.leaf_test.LeafTest.TheVariants as test
use Rattle.profile_sorts.specs.declared.production.Alternative as held
use Rattle.profile_sorts.specs.declared.production.Alternative.TheVariants as code
use Rattle.profile_sorts.specs.declared.production.Form as lent
use Rattle.profile_sorts.specs.declared.production.Form.TheVariants as form
use Rattle.profile_sorts.specs.declared.production.Others.{Others}
use Rattle.profile_sorts.specs.declared.production.Others.TheVariants as other
use Rattle.profile_sorts.specs.declared.sort.Sort.{Sort}
use Rattle.profile_sorts.specs.declared.sort.Sort.TheVariants.{Anything, Thing, Class, Property, ZeroOrOne, Ranges, SharedDatatypes, Named, ElAxiom, ElClasses, ElRanges, ElProperties, QlAxiom, QlClasses, QlSub, QlSuper, RlAxiom, RlClasses, RlSub, RlFiller, RlSuper, RlEquivalent, RlDatatypes, RlProperties}

-- What trees with a tag have to be like.
pub data Form : Type 0 where
  -- whatever there is
  Any : Form
  -- there is no such tree
  Refused : Form
  -- leaves that pass
  Atom : LeafTest → Form
  -- kids of these sorts in front, in order, and of this one behind them
  Kids : List Sort → Sort → Form
  -- one kid
  Single : Form

-- A sort of trees: what is asked of those with these tags, and what of all others.
pub record Production : Type 0 where
  pub alternatives : List (Tag × Form)
  pub others : Others

-- the form that the program has
abbrev pub form_seen : lent.Form → Form
form_seen form.Any = Any
form_seen form.Refused = Refused
form_seen (form.Atom test) = Atom test
form_seen (form.Kids front rest) = Kids front.now rest
form_seen form.Single = Single

-- the alternative that the program has
abbrev pub alternative_seen : held.Alternative → Tag × Form
alternative_seen (code.Any t) = (t, Any)
alternative_seen (code.Refused t) = (t, Refused)
alternative_seen (code.Atom t test) = (t, Atom test)
alternative_seen (code.Kids t front rest) = (t, Kids front.now rest)
alternative_seen (code.Single t) = (t, Single)

abbrev any_of : List Tag → List (Tag × Form)
any_of ts = map (λ t. (t, Any)) ts

-- each kid is of the sort
abbrev each : Sort → Form
each s = Kids [] s

-- subClassExpression of RL but for classes (section 4.2.3)
abbrev rl_sub_forms : List (Tag × Form)
rl_sub_forms =
    (tag.ObjectIntersectionOf, each RlSub) ∷ (tag.ObjectUnionOf, each RlSub) ∷ (tag.ObjectOneOf, Any)
    ∷ (tag.ObjectSomeValuesFrom, Kids (Anything ∷ []) RlFiller) ∷ (tag.ObjectHasValue, Any)
    ∷ (tag.DataSomeValuesFrom, Any) ∷ (tag.DataHasValue, Any) ∷ []

-- There are no others, or all others, or others are right where each of their kids is, and the alternatives say all of one sort of trees.
abbrev only : List (Tag × Form) → Production
only alternatives = record { alternatives = alternatives; others = other.Nothing }

abbrev besides : List (Tag × Form) → Production
besides alternatives = record { alternatives = alternatives; others = other.Anything }

abbrev throughout : Trees → List (Tag × Form) → Production
throughout all alternatives = record { alternatives = alternatives; others = other.Throughout all }

unfoldable pub production_of : Sort → Production
-- every tree
production_of Anything = besides []
-- owl:Thing
production_of Thing = only ((tag.Class, Atom test.Thing) ∷ [])
-- Class (Structural Specification, section 5.1)
production_of Class = only ((tag.Class, Any) ∷ [])
-- ObjectPropertyExpression (Structural Specification, section 6.1)
production_of Property = only ((tag.ObjectProperty, Any) ∷ (tag.ObjectInverseOf, Any) ∷ [])
-- zeroOrOne of RL (section 4.2.3)
production_of ZeroOrOne = only ((tag.Number, Atom test.ZeroOrOne) ∷ [])
-- each data range in it is a DataRange of QL and RL (sections 3.2.4 and 4.2.4)
production_of Ranges = throughout trees.DataRange ((tag.Datatype, Any) ∷ (tag.DataIntersectionOf, each Ranges) ∷ [])
-- each datatype of the datatype map in it is one of EL and QL (sections 2.2.1 and 3.2.1)
production_of SharedDatatypes = throughout trees.Datatype ((tag.Datatype, Atom test.SharedDatatype) ∷ (tag.Literal, Atom test.SharedDatatype) ∷ [])
-- no anonymous individual stands in it (sections 2.2.1 and 3.2.1)
production_of Named = throughout trees.Individual ((tag.NamedIndividual, Any) ∷ [])
-- Axiom of EL, by its kind (section 2.2.5)
production_of ElAxiom =
    only (
    any_of (tag.Declaration ∷ tag.SubClassOf ∷ tag.EquivalentClasses ∷ tag.DisjointClasses ∷ tag.SubObjectPropertyOf
    ∷ tag.EquivalentObjectProperties ∷ tag.ObjectPropertyDomain ∷ tag.ObjectPropertyRange
    ∷ tag.ReflexiveObjectProperty ∷ tag.TransitiveObjectProperty ∷ tag.SubDataPropertyOf
    ∷ tag.EquivalentDataProperties ∷ tag.DataPropertyDomain ∷ tag.DataPropertyRange
    ∷ tag.FunctionalDataProperty ∷ tag.DatatypeDefinition ∷ tag.HasKey ∷ tag.SameIndividual
    ∷ tag.DifferentIndividuals ∷ tag.ClassAssertion ∷ tag.ObjectPropertyAssertion
    ∷ tag.NegativeObjectPropertyAssertion ∷ tag.DataPropertyAssertion ∷ tag.NegativeDataPropertyAssertion
    ∷ tag.AnnotationAssertion ∷ tag.SubAnnotationPropertyOf ∷ tag.AnnotationPropertyDomain
    ∷ tag.AnnotationPropertyRange ∷ []))
-- each class expression in it is a ClassExpression of EL (section 2.2.3)
production_of ElClasses =
    throughout trees.ClassExpression (
    (tag.Class, Any) ∷ (tag.ObjectIntersectionOf, each ElClasses) ∷ (tag.ObjectOneOf, Single)
    ∷ (tag.ObjectSomeValuesFrom, each ElClasses) ∷ (tag.ObjectHasValue, Any) ∷ (tag.ObjectHasSelf, Any)
    ∷ (tag.DataSomeValuesFrom, Any) ∷ (tag.DataHasValue, Any) ∷ [])
-- each data range in it is a DataRange of EL (section 2.2.4)
production_of ElRanges = throughout trees.DataRange ((tag.Datatype, Any) ∷ (tag.DataIntersectionOf, each ElRanges) ∷ (tag.DataOneOf, Single) ∷ [])
-- each object property expression in it is a property (section 2.2.2)
production_of ElProperties = throughout trees.ObjectPropertyExpression ((tag.ObjectProperty, Any) ∷ [])
-- Axiom of QL, by its kind (section 3.2.5): chains of properties are left out
production_of QlAxiom =
    only (
    (tag.SubObjectPropertyOf, Kids (Anything ∷ Property ∷ []) Anything)
    ∷ any_of (tag.Declaration ∷ tag.SubClassOf ∷ tag.EquivalentClasses ∷ tag.DisjointClasses
    ∷ tag.EquivalentObjectProperties ∷ tag.DisjointObjectProperties ∷ tag.InverseObjectProperties
    ∷ tag.ObjectPropertyDomain ∷ tag.ObjectPropertyRange ∷ tag.ReflexiveObjectProperty
    ∷ tag.IrreflexiveObjectProperty ∷ tag.SymmetricObjectProperty ∷ tag.AsymmetricObjectProperty
    ∷ tag.SubDataPropertyOf ∷ tag.EquivalentDataProperties ∷ tag.DisjointDataProperties
    ∷ tag.DataPropertyDomain ∷ tag.DataPropertyRange ∷ tag.DatatypeDefinition ∷ tag.DifferentIndividuals
    ∷ tag.ClassAssertion ∷ tag.ObjectPropertyAssertion ∷ tag.DataPropertyAssertion ∷ tag.AnnotationAssertion
    ∷ tag.SubAnnotationPropertyOf ∷ tag.AnnotationPropertyDomain ∷ tag.AnnotationPropertyRange ∷ []))
-- class expressions stand in it where QL lets them (section 3.2.5); in front are annotations
production_of QlClasses =
    besides (
    (tag.SubClassOf, Kids (Anything ∷ QlSub ∷ []) QlSuper)
    ∷ (tag.EquivalentClasses, Kids (Anything ∷ []) QlSub)
    ∷ (tag.DisjointClasses, Kids (Anything ∷ []) QlSub)
    ∷ (tag.ObjectPropertyDomain, Kids (Anything ∷ Anything ∷ []) QlSuper)
    ∷ (tag.ObjectPropertyRange, Kids (Anything ∷ Anything ∷ []) QlSuper)
    ∷ (tag.DataPropertyDomain, Kids (Anything ∷ Anything ∷ []) QlSuper)
    ∷ (tag.ClassAssertion, Kids (Anything ∷ Class ∷ []) Anything) ∷ [])
-- subClassExpression of QL (section 3.2.3)
production_of QlSub =
    only (
    (tag.Class, Any) ∷ (tag.ObjectSomeValuesFrom, Kids (Anything ∷ []) Thing)
    ∷ (tag.DataSomeValuesFrom, Any) ∷ [])
-- superClassExpression of QL (section 3.2.3)
production_of QlSuper =
    only (
    (tag.Class, Any) ∷ (tag.ObjectIntersectionOf, each QlSuper) ∷ (tag.ObjectComplementOf, each QlSub)
    ∷ (tag.ObjectSomeValuesFrom, Kids (Anything ∷ []) Class) ∷ (tag.DataSomeValuesFrom, Any) ∷ [])
-- Axiom of RL, by its kind (section 4.2.5)
production_of RlAxiom = besides ((tag.DisjointUnion, Refused) ∷ (tag.ReflexiveObjectProperty, Refused) ∷ [])
-- class expressions stand in it where RL lets them (section 4.2.5); in front are annotations
production_of RlClasses =
    besides (
    (tag.SubClassOf, Kids (Anything ∷ RlSub ∷ []) RlSuper)
    ∷ (tag.EquivalentClasses, Kids (Anything ∷ []) RlEquivalent)
    ∷ (tag.DisjointClasses, Kids (Anything ∷ []) RlSub)
    ∷ (tag.ObjectPropertyDomain, Kids (Anything ∷ Anything ∷ []) RlSuper)
    ∷ (tag.ObjectPropertyRange, Kids (Anything ∷ Anything ∷ []) RlSuper)
    ∷ (tag.DataPropertyDomain, Kids (Anything ∷ Anything ∷ []) RlSuper)
    ∷ (tag.HasKey, Kids (Anything ∷ RlSub ∷ []) Anything)
    ∷ (tag.ClassAssertion, Kids (Anything ∷ RlSuper ∷ []) Anything) ∷ [])
-- subClassExpression of RL (section 4.2.3)
production_of RlSub = only ((tag.Class, Atom test.NotThing) ∷ rl_sub_forms)
-- the same, or owl:Thing
production_of RlFiller = only ((tag.Class, Any) ∷ rl_sub_forms)
-- superClassExpression of RL (section 4.2.3)
production_of RlSuper =
    only (
    (tag.Class, Atom test.NotThing) ∷ (tag.ObjectIntersectionOf, each RlSuper)
    ∷ (tag.ObjectComplementOf, each RlSub) ∷ (tag.ObjectAllValuesFrom, Kids (Anything ∷ []) RlSuper)
    ∷ (tag.ObjectHasValue, Any) ∷ (tag.ObjectMaxCardinality, Kids (ZeroOrOne ∷ Anything ∷ []) RlFiller)
    ∷ (tag.DataAllValuesFrom, Any) ∷ (tag.DataHasValue, Any)
    ∷ (tag.DataMaxCardinality, Kids (ZeroOrOne ∷ []) Anything) ∷ [])
-- equivClassExpression of RL (section 4.2.3)
production_of RlEquivalent =
    only (
    (tag.Class, Atom test.NotThing) ∷ (tag.ObjectIntersectionOf, each RlEquivalent)
    ∷ (tag.ObjectHasValue, Any) ∷ (tag.DataHasValue, Any) ∷ [])
-- no datatype in it is owl:real or owl:rational (section 4.2.1)
production_of RlDatatypes = throughout trees.Datatype ((tag.Datatype, Atom test.RlDatatype) ∷ (tag.Literal, Atom test.RlDatatype) ∷ [])
-- no top and no bottom property stands in it (section 4.2.1)
production_of RlProperties =
    throughout trees.ObjectProperty (
    (tag.ObjectProperty, Atom test.OrdinaryObjectProperty)
    ∷ (tag.DataProperty, Atom test.OrdinaryDataProperty) ∷ [])
