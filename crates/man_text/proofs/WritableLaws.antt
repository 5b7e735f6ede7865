-- Which pieces of documents stand in a text: those that the rules of the grammar read, with so many nests open at most.
use Rattle.std.specs.Prelude.{◌≡◌, ◌<◌, ◌^◌, ℕ, suc, IfSome, List, [], ◌∷◌, None, Some}
use Rattle.std.specs.List.{AllByRecursion}
use Rattle.man_raw.specs.declared.document.RawPart.{RawPart}
use Rattle.man_raw.specs.declared.form.Characteristic.{Characteristic}
use Rattle.man_raw.specs.declared.form.Characteristic.TheVariants as word
use Rattle.man_raw.specs.declared.form.Facet.{Facet}
use Rattle.man_raw.specs.declared.form.Form.{Form}
use Rattle.man_raw.specs.declared.form.Form.TheVariants as form
use Rattle.man_raw.specs.declared.form.What.TheVariants as what
use Rattle.man_raw.specs.declared.heading.Heading.{Heading}
use Rattle.man_raw.specs.declared.heading.Heading.TheVariants as heading
use Rattle.man_raw.specs.declared.heading.Section.{Section}
use Rattle.man_raw.specs.declared.heading.Section.TheVariants as section
use Rattle.man_raw.specs.Documents.{DocumentTree, HeadTree, ItemTree}
use Rattle.man_raw.specs.Raws.{RawTree}
use Rattle.owl_characters.specs.Iri.{IsIri}
use Rattle.owl_characters.specs.Names.{IsLabel}
use Rattle.owl_tree.specs.declared.atom.Atom.TheVariants as atom
use Rattle.rdf_terms.specs.Literals.{IsLiteral, LiteralParts}
use Rattle.man_text.specs.Undecided.{piece}

-- ---- atoms

pub data IsName : RawTree → Type 0 where
  an_iri : (iri : List ℕ) → IsIri iri → IsName (piece (what.Atom (atom.Iri iri)) [])

pub data IsLiteralPiece : RawTree → Type 0 where
  a_literal : (literal : LiteralParts) → IsLiteral literal → IsLiteralPiece (piece (what.Atom (atom.Literal literal)) [])

pub data IsNumber : RawTree → Type 0 where
  a_number : (n : ℕ) → n < 2 ^ 64 → IsNumber (piece (what.Atom (atom.Number n)) [])

pub data IsIndividual : RawTree → Type 0 where
  named : (t : RawTree) → IsName t → IsIndividual t
  labelled : (label : List ℕ) → IsLabel label → IsIndividual (piece (what.Atom (atom.Label label)) [])

pub data IsValue : RawTree → Type 0 where
  individual : (t : RawTree) → IsIndividual t → IsValue t
  literal : (t : RawTree) → IsLiteralPiece t → IsValue t

pub data IsProperty : RawTree → Type 0 where
  direct : (t : RawTree) → IsName t → IsProperty t
  inverse : (t : RawTree) → IsName t → IsProperty (piece (what.Form form.Inverse) (t ∷ []))

pub data IsFacetPair : RawTree → Type 0 where
  facet_pair : (f : Facet) (t : RawTree) → IsLiteralPiece t → IsFacetPair (piece (what.Form form.FacetPair) (piece (what.Facet f) [] ∷ t ∷ []))

-- ---- expressions (Manchester Syntax, sections 2.3 and 2.4)

-- `some` and `only`
pub data IsQuantifier : Form → Type 0 where
  some_of : IsQuantifier form.SomeOf
  only_of : IsQuantifier form.OnlyOf

-- `min`, `max` and `exactly`
pub data IsCardinality : Form → Type 0 where
  min : IsCardinality form.Min
  max : IsCardinality form.Max
  exactly : IsCardinality form.Exactly

-- `or` and `and`
pub data IsConnective : Form → Type 0 where
  or : IsConnective form.Or
  and : IsConnective form.And

mutual
  pub data IsOperand : ℕ → RawTree → Type 0 where
    of_name : (n : ℕ) (t : RawTree) → IsName t → IsOperand n t
    individuals : (n : ℕ) (t : RawTree) (ts : List RawTree) → AllByRecursion IsIndividual (t ∷ ts) → IsOperand (suc n) (piece (what.Form form.Individuals) (t ∷ ts))
    literals : (n : ℕ) (t : RawTree) (ts : List RawTree) → AllByRecursion IsLiteralPiece (t ∷ ts) → IsOperand (suc n) (piece (what.Form form.Literals) (t ∷ ts))
    restricted : (n : ℕ) (name t : RawTree) (ts : List RawTree) → IsName name → AllByRecursion IsFacetPair (t ∷ ts) → IsOperand (suc n) (piece (what.Form form.Restricted) (name ∷ t ∷ ts))
    bracket : (n : ℕ) (t : RawTree) → IsExpression n t → IsOperand (suc n) (piece (what.Form form.Bracket) (t ∷ []))

  pub data AreOperands : ℕ → List RawTree → Type 0 where
    no_operands : (n : ℕ) → AreOperands n []
    operand : (n : ℕ) (t : RawTree) (ts : List RawTree) → IsOperand n t → AreOperands n ts → AreOperands n (t ∷ ts)

  pub data IsExpression : ℕ → RawTree → Type 0 where
    alone : (n : ℕ) (t : RawTree) → IsOperand n t → IsExpression n t
    connected : (n : ℕ) (f : Form) (t u : RawTree) (ts : List RawTree) → IsConnective f → AreOperands n (t ∷ u ∷ ts) → IsExpression n (piece (what.Form f) (t ∷ u ∷ ts))
    not_of : (n : ℕ) (t : RawTree) → IsOperand n t → IsExpression (suc n) (piece (what.Form form.Not) (t ∷ []))
    quantified : (n : ℕ) (f : Form) (p t : RawTree) → IsQuantifier f → IsProperty p → IsOperand n t → IsExpression (suc n) (piece (what.Form f) (p ∷ t ∷ []))
    value_of : (n : ℕ) (p t : RawTree) → IsProperty p → IsValue t → IsExpression n (piece (what.Form form.HasValue) (p ∷ t ∷ []))
    self_of : (n : ℕ) (p : RawTree) → IsProperty p → IsExpression n (piece (what.Form form.HasSelf) (p ∷ []))
    counted : (n : ℕ) (f : Form) (p number : RawTree) → IsCardinality f → IsProperty p → IsNumber number → IsExpression (suc n) (piece (what.Form f) (p ∷ number ∷ []))
    counted_of : (n : ℕ) (f : Form) (p number t : RawTree) → IsCardinality f → IsProperty p → IsNumber number → IsOperand n t → IsExpression (suc n) (piece (what.Form f) (p ∷ number ∷ t ∷ []))

-- ---- annotations (section 2.2)

mutual
  pub data IsNotes : ℕ → RawTree → Type 0 where
    no_notes : (n : ℕ) → IsNotes n (piece (what.Form form.Notes) [])
    some_notes : (n : ℕ) (t : RawTree) (ts : List RawTree) → AreNotes n (t ∷ ts) → IsNotes (suc n) (piece (what.Form form.Notes) (t ∷ ts))

  pub data AreNotes : ℕ → List RawTree → Type 0 where
    end_of_notes : (n : ℕ) → AreNotes n []
    note : (n : ℕ) (above p v : RawTree) (ts : List RawTree) → IsNotes n above → IsName p → IsValue v → AreNotes n ts
        → AreNotes n (piece (what.Form form.Note) (above ∷ p ∷ v ∷ []) ∷ ts)

-- those of the ontology, which are not written where there are none
pub data AreHeadNotes : ℕ → RawTree → Type 0 where
  head_notes : (n : ℕ) (t : RawTree) (ts : List RawTree) → AreNotes n (t ∷ ts) → AreHeadNotes (suc n) (piece (what.Form form.Notes) (t ∷ ts))

-- ---- parts of items (sections 2.5 and 2.6)

-- the piece is of the form, over two parts
pub data IsFact : Form → RawTree → Type 0 where
  pair : (f : Form) (p v : RawTree) → IsName p → IsValue v → IsFact f (piece (what.Form f) (p ∷ v ∷ []))

-- two or more
pub data IsList (Each : RawTree → Type 0) : RawTree → Type 0 where
  members : (t u : RawTree) (ts : List RawTree) → AllByRecursion Each (t ∷ u ∷ ts) → IsList Each (piece (what.Form form.List) (t ∷ u ∷ ts))

-- one or more
pub data IsKeyList : RawTree → Type 0 where
  keys : (t : RawTree) (ts : List RawTree) → AllByRecursion IsProperty (t ∷ ts) → IsKeyList (piece (what.Form form.List) (t ∷ ts))

pub data IsWord : RawTree → Type 0 where
  a_word : (w : Characteristic) → IsWord (piece (what.Word w) [])

pub data IsFunctional : RawTree → Type 0 where
  functional : IsFunctional (piece (what.Word word.Functional) [])

-- what stands in the section of an item
pub data IsBody (n : ℕ) : Heading → Section → RawTree → Type 0 where
  class_super : (t : RawTree) → IsExpression n t → IsBody n heading.Class section.SubClassOf t
  class_members : (t : RawTree) → IsList (IsExpression n) t → IsBody n heading.Class section.DisjointUnionOf t
  class_keys : (t : RawTree) → IsKeyList t → IsBody n heading.Class section.HasKey t
  datatype_definition : (t : RawTree) → IsExpression n t → IsBody n heading.Datatype section.EquivalentTo t
  object_domain : (t : RawTree) → IsExpression n t → IsBody n heading.ObjectProperty section.Domain t
  object_range : (t : RawTree) → IsExpression n t → IsBody n heading.ObjectProperty section.Range t
  object_word : (t : RawTree) → IsWord t → IsBody n heading.ObjectProperty section.Characteristics t
  object_super : (t : RawTree) → IsProperty t → IsBody n heading.ObjectProperty section.SubPropertyOf t
  object_inverse : (t : RawTree) → IsProperty t → IsBody n heading.ObjectProperty section.InverseOf t
  object_chain : (t : RawTree) → IsList IsProperty t → IsBody n heading.ObjectProperty section.SubPropertyChain t
  data_domain : (t : RawTree) → IsExpression n t → IsBody n heading.DataProperty section.Domain t
  data_range : (t : RawTree) → IsExpression n t → IsBody n heading.DataProperty section.Range t
  data_word : (t : RawTree) → IsFunctional t → IsBody n heading.DataProperty section.Characteristics t
  data_super : (t : RawTree) → IsName t → IsBody n heading.DataProperty section.SubPropertyOf t
  annotation_domain : (t : RawTree) → IsName t → IsBody n heading.AnnotationProperty section.Domain t
  annotation_range : (t : RawTree) → IsName t → IsBody n heading.AnnotationProperty section.Range t
  annotation_super : (t : RawTree) → IsName t → IsBody n heading.AnnotationProperty section.SubPropertyOf t
  individual_types : (t : RawTree) → IsExpression n t → IsBody n heading.Individual section.Types t
  individual_fact : (t : RawTree) → IsFact form.Fact t → IsBody n heading.Individual section.Facts t
  individual_negative : (t : RawTree) → IsFact form.NegativeFact t → IsBody n heading.Individual section.Facts t
  assertion : (h : Heading) (t : RawTree) → IsFact form.Assertion t → IsBody n h section.Annotations t

-- the members of an item that is no frame
pub data AreMembers (n : ℕ) : Heading → RawTree → Type 0 where
  equivalent_classes : (t : RawTree) → IsList (IsExpression n) t → AreMembers n heading.EquivalentClasses t
  disjoint_classes : (t : RawTree) → IsList (IsExpression n) t → AreMembers n heading.DisjointClasses t
  equivalent_properties : (t : RawTree) → IsList IsProperty t → AreMembers n heading.EquivalentProperties t
  disjoint_properties : (t : RawTree) → IsList IsProperty t → AreMembers n heading.DisjointProperties t
  same_individual : (t : RawTree) → IsList IsIndividual t → AreMembers n heading.SameIndividual t
  different_individuals : (t : RawTree) → IsList IsIndividual t → AreMembers n heading.DifferentIndividuals t

-- ---- items

-- what a frame may be of
pub data IsSubject : Heading → RawTree → Type 0 where
  of_class : (t : RawTree) → IsName t → IsSubject heading.Class t
  of_datatype : (t : RawTree) → IsName t → IsSubject heading.Datatype t
  of_object_property : (t : RawTree) → IsName t → IsSubject heading.ObjectProperty t
  of_data_property : (t : RawTree) → IsName t → IsSubject heading.DataProperty t
  of_annotation_property : (t : RawTree) → IsName t → IsSubject heading.AnnotationProperty t
  of_individual : (t : RawTree) → IsIndividual t → IsSubject heading.Individual t

abbrev pub one_part : Section → RawTree → RawTree → List RawPart
one_part s notes body = record { at = 0; section = s; notes = notes; body = body } ∷ []

-- a frame with no section or with one, or an item with its members
pub data IsItem (n : ℕ) : ItemTree → Type 0 where
  bare_frame : (h : Heading) (name : RawTree) → IsSubject h name → IsItem n (record { at = 0; heading = h; name = Some name; parts = [] })
  framed : (h : Heading) (name : RawTree) (s : Section) (notes body : RawTree) → IsSubject h name → IsNotes n notes → IsBody n h s body
      → IsItem n (record { at = 0; heading = h; name = Some name; parts = one_part s notes body })
  unframed : (h : Heading) (notes body : RawTree) → IsNotes n notes → AreMembers n h body
      → IsItem n (record { at = 0; heading = h; name = None; parts = one_part section.Members notes body })

-- ---- documents

pub record IsHeadTree (h : HeadTree) : Type 0 where
  pub iri : IfSome h.iri IsIri
  pub version : IfSome h.version IsIri
  pub beside : h.iri ≡ None → h.version ≡ None
  pub imports : AllByRecursion IsIri h.imports

-- all that is said in the document stands in a text; of its prefixes nothing is said here
pub record IsWritable (n : ℕ) (d : DocumentTree) : Type 0 where
  pub head : IsHeadTree d.head
  pub notes : AllByRecursion (AreHeadNotes n) d.notes
  pub items : AllByRecursion (IsItem n) d.items
