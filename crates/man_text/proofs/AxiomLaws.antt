-- Axioms by the blocks in which they are written.
use Rattle.std.specs.Prelude.{◌≡◌, ℕ, List, [], ◌∷◌, ◌++◌, Some}
use Rattle.std.specs.List.{AllByRecursion}
use Rattle.man_raw.specs.declared.heading.Heading.{Heading}
use Rattle.man_raw.specs.declared.heading.Heading.TheVariants as heading
use Rattle.man_raw.specs.declared.heading.Section.{Section}
use Rattle.man_raw.specs.declared.heading.Section.TheVariants as section
use Rattle.man_resolve.specs.declared.place.Place.{Place}
use Rattle.man_resolve.specs.declared.place.Place.TheVariants as place
use Rattle.man_resolve.specs.Expressions.{Knows}
use Rattle.owl_characters.specs.Iri.{IsIri}
use Rattle.owl_characters.specs.Names.{IsLabel}
use Rattle.owl_kind.specs.declared.kind.Kind.{Kind}
use Rattle.owl_tree.specs.declared.atom.Atom.TheVariants as atom
use Rattle.owl_tree.specs.declared.tag.Tag.{Tag}
use Rattle.owl_tree.specs.declared.tag.Tag.TheVariants as tag
use Rattle.owl_tree.specs.Trees.{Tree, kids_of, leaf, no_kids, node}
use Rattle.man_sayable.specs.FrameKinds.{frame_kind}
use Rattle.man_text.proofs.ExpressionLaws.{IsExpressionAt, IsLeafAt, IsNotesTree, IsPropertyOf, Side, datas, objects, value_place}

-- ---- what stands behind the subject

pub data IsBodyAt : Place → Tree → Type 0 where
  class_body : (t : Tree) → IsExpressionAt place.Class t → IsBodyAt place.Class t
  range_body : (t : Tree) → IsExpressionAt place.Range t → IsBodyAt place.Range t
  property_body : (t : Tree) → IsPropertyOf objects t → IsBodyAt place.Object t
  data_body : (t : Tree) → IsLeafAt place.Data t → IsBodyAt place.Data t
  annotation_body : (t : Tree) → IsLeafAt place.AnnotationProperty t → IsBodyAt place.AnnotationProperty t
  iri_body : (t : Tree) → IsLeafAt place.Iri t → IsBodyAt place.Iri t
  individual_body : (t : Tree) → IsLeafAt place.Individual t → IsBodyAt place.Individual t

-- ---- the tags, by their sections

-- the subject stands in front of the other kid
pub data IsBeside : Tag → Heading → Section → Place → Place → Type 0 where
  sub_class : IsBeside tag.SubClassOf heading.Class section.SubClassOf place.ClassName place.Class
  sub_property : IsBeside tag.SubObjectPropertyOf heading.ObjectProperty section.SubPropertyOf place.ObjectName place.Object
  inverse_properties : IsBeside tag.InverseObjectProperties heading.ObjectProperty section.InverseOf place.ObjectName place.Object
  object_domain : IsBeside tag.ObjectPropertyDomain heading.ObjectProperty section.Domain place.ObjectName place.Class
  object_range : IsBeside tag.ObjectPropertyRange heading.ObjectProperty section.Range place.ObjectName place.Class
  sub_data_property : IsBeside tag.SubDataPropertyOf heading.DataProperty section.SubPropertyOf place.Data place.Data
  data_domain : IsBeside tag.DataPropertyDomain heading.DataProperty section.Domain place.Data place.Class
  data_range : IsBeside tag.DataPropertyRange heading.DataProperty section.Range place.Data place.Range
  definition : IsBeside tag.DatatypeDefinition heading.Datatype section.EquivalentTo place.Datatype place.Range
  sub_annotation_property : IsBeside tag.SubAnnotationPropertyOf heading.AnnotationProperty section.SubPropertyOf place.AnnotationProperty place.AnnotationProperty
  annotation_domain : IsBeside tag.AnnotationPropertyDomain heading.AnnotationProperty section.Domain place.AnnotationProperty place.Iri
  annotation_range : IsBeside tag.AnnotationPropertyRange heading.AnnotationProperty section.Range place.AnnotationProperty place.Iri

-- a list of members, of which two or more have to be written
pub data IsListed : Tag → Heading → Place → Type 0 where
  equivalent_classes : IsListed tag.EquivalentClasses heading.EquivalentClasses place.Class
  disjoint_classes : IsListed tag.DisjointClasses heading.DisjointClasses place.Class
  same_individual : IsListed tag.SameIndividual heading.SameIndividual place.Individual
  different_individuals : IsListed tag.DifferentIndividuals heading.DifferentIndividuals place.Individual

pub data IsPropertyList : Side → Tag → Heading → Type 0 where
  equivalent_objects : IsPropertyList objects tag.EquivalentObjectProperties heading.EquivalentProperties
  disjoint_objects : IsPropertyList objects tag.DisjointObjectProperties heading.DisjointProperties
  equivalent_datas : IsPropertyList datas tag.EquivalentDataProperties heading.EquivalentProperties
  disjoint_datas : IsPropertyList datas tag.DisjointDataProperties heading.DisjointProperties

pub data IsFactTag : Side → Tag → Type 0 where
  object_fact : IsFactTag objects tag.ObjectPropertyAssertion
  negative_object_fact : IsFactTag objects tag.NegativeObjectPropertyAssertion
  data_fact : IsFactTag datas tag.DataPropertyAssertion
  negative_data_fact : IsFactTag datas tag.NegativeDataPropertyAssertion

pub data IsWordTag : Tag → Heading → Place → Type 0 where
  functional : IsWordTag tag.FunctionalObjectProperty heading.ObjectProperty place.ObjectName
  inverse_functional : IsWordTag tag.InverseFunctionalObjectProperty heading.ObjectProperty place.ObjectName
  reflexive : IsWordTag tag.ReflexiveObjectProperty heading.ObjectProperty place.ObjectName
  irreflexive : IsWordTag tag.IrreflexiveObjectProperty heading.ObjectProperty place.ObjectName
  symmetric : IsWordTag tag.SymmetricObjectProperty heading.ObjectProperty place.ObjectName
  asymmetric : IsWordTag tag.AsymmetricObjectProperty heading.ObjectProperty place.ObjectName
  transitive : IsWordTag tag.TransitiveObjectProperty heading.ObjectProperty place.ObjectName
  functional_data : IsWordTag tag.FunctionalDataProperty heading.DataProperty place.Data

-- what is declared, and in which frame
pub data IsEntityTag : Tag → Heading → Place → Type 0 where
  of_class : IsEntityTag tag.Class heading.Class place.ClassName
  of_datatype : IsEntityTag tag.Datatype heading.Datatype place.Datatype
  of_object_property : IsEntityTag tag.ObjectProperty heading.ObjectProperty place.ObjectName
  of_data_property : IsEntityTag tag.DataProperty heading.DataProperty place.Data
  of_annotation_property : IsEntityTag tag.AnnotationProperty heading.AnnotationProperty place.AnnotationProperty
  of_individual : IsEntityTag tag.NamedIndividual heading.Individual place.Individual

abbrev pub bare_notes : Tree
bare_notes = node tag.Notes no_kids

abbrev pub AreBodies : Place → List Tree → Type 0
AreBodies p ts = AllByRecursion (IsBodyAt p) ts

abbrev pub AreProperties : Side → List Tree → Type 0
AreProperties s ts = AllByRecursion (IsPropertyOf s) ts

-- what an annotation is about
pub data IsAbout (ks : Knows) : Tree → Type 0 where
  about_iri : (iri : List ℕ) (k : Kind) → IsIri iri → frame_kind ks iri ≡ Some k → IsAbout ks (leaf tag.PlainIri (atom.Iri iri))
  about_label : (label : List ℕ) → IsLabel label → IsAbout ks (leaf tag.Anonymous (atom.Label label))

-- a property by its name
pub data IsNamedProperty : Side → Tree → Type 0 where
  object_name : (iri : List ℕ) → IsIri iri → IsNamedProperty objects (leaf tag.ObjectProperty (atom.Iri iri))
  data_name : (iri : List ℕ) → IsIri iri → IsNamedProperty datas (leaf tag.DataProperty (atom.Iri iri))

-- ---- axioms

-- An axiom with the tag over these kids, and what its block says of what heads it: a declaration says no more.
pub data IsAxiomOver (ks : Knows) : Tag → List Tree → List Tree → Type 0 where
  declaration : (t : Tag) (h : Heading) (p : Place) (iri : List ℕ) → IsEntityTag t h p → IsIri iri
      → IsAxiomOver ks tag.Declaration (bare_notes ∷ leaf t (atom.Iri iri) ∷ []) []
  beside : (t : Tag) (h : Heading) (s : Section) (p q : Place) (notes subject body : Tree) → IsBeside t h s p q → IsNotesTree notes → IsLeafAt p subject → IsBodyAt q body
      → IsAxiomOver ks t (notes ∷ subject ∷ body ∷ []) (node t (kids_of (notes ∷ subject ∷ body ∷ [])) ∷ [])
  typing : (notes body subject : Tree) → IsNotesTree notes → IsExpressionAt place.Class body → IsLeafAt place.Individual subject
      → IsAxiomOver ks tag.ClassAssertion (notes ∷ body ∷ subject ∷ []) (node tag.ClassAssertion (kids_of (notes ∷ body ∷ subject ∷ [])) ∷ [])
  chain : (notes a b : Tree) (ts : List Tree) (subject : Tree) → IsNotesTree notes → AreProperties objects (a ∷ b ∷ ts) → IsLeafAt place.ObjectName subject
      → IsAxiomOver ks tag.SubObjectPropertyOf (notes ∷ node tag.ObjectPropertyChain (kids_of (a ∷ b ∷ ts)) ∷ subject ∷ []) (node tag.SubObjectPropertyOf (kids_of (notes ∷ node tag.ObjectPropertyChain (kids_of (a ∷ b ∷ ts)) ∷ subject ∷ [])) ∷ [])
  listed : (t : Tag) (h : Heading) (p : Place) (notes a b : Tree) (ts : List Tree) → IsListed t h p → IsNotesTree notes → AreBodies p (a ∷ b ∷ ts)
      → IsAxiomOver ks t (notes ∷ a ∷ b ∷ ts) (node t (kids_of (notes ∷ a ∷ b ∷ ts)) ∷ [])
  union_of : (notes subject a b : Tree) (ts : List Tree) → IsNotesTree notes → IsLeafAt place.ClassName subject → AreBodies place.Class (a ∷ b ∷ ts)
      → IsAxiomOver ks tag.DisjointUnion (notes ∷ subject ∷ a ∷ b ∷ ts) (node tag.DisjointUnion (kids_of (notes ∷ subject ∷ a ∷ b ∷ ts)) ∷ [])
  property_list : (s : Side) (t : Tag) (h : Heading) (notes a b : Tree) (ts : List Tree) → IsPropertyList s t h → IsNotesTree notes → AreProperties s (a ∷ b ∷ ts)
      → IsAxiomOver ks t (notes ∷ a ∷ b ∷ ts) (node t (kids_of (notes ∷ a ∷ b ∷ ts)) ∷ [])
  key : (notes subject : Tree) (os ds : List Tree) (a : Tree) (ts : List Tree) → IsNotesTree notes → IsLeafAt place.ClassName subject → AreProperties objects os → AreProperties datas ds → os ++ ds ≡ a ∷ ts
      → IsAxiomOver ks tag.HasKey (notes ∷ subject ∷ node tag.ObjectKeys (kids_of os) ∷ node tag.DataKeys (kids_of ds) ∷ []) (node tag.HasKey (kids_of (notes ∷ subject ∷ node tag.ObjectKeys (kids_of os) ∷ node tag.DataKeys (kids_of ds) ∷ [])) ∷ [])
  fact : (s : Side) (t : Tag) (notes : Tree) (p subject value : Tree) → IsFactTag s t → IsNotesTree notes → IsNamedProperty s p → IsLeafAt place.Individual subject → IsLeafAt (value_place s) value
      → IsAxiomOver ks t (notes ∷ p ∷ subject ∷ value ∷ []) (node t (kids_of (notes ∷ p ∷ subject ∷ value ∷ [])) ∷ [])
  word : (t : Tag) (h : Heading) (p : Place) (notes subject : Tree) → IsWordTag t h p → IsNotesTree notes → IsLeafAt p subject
      → IsAxiomOver ks t (notes ∷ subject ∷ []) (node t (kids_of (notes ∷ subject ∷ [])) ∷ [])
  assertion : (notes p about v : Tree) → IsNotesTree notes → IsLeafAt place.AnnotationProperty p → IsAbout ks about → IsLeafAt place.Value v
      → IsAxiomOver ks tag.AnnotationAssertion (notes ∷ p ∷ about ∷ v ∷ []) (node tag.AnnotationAssertion (kids_of (notes ∷ p ∷ about ∷ v ∷ [])) ∷ [])
