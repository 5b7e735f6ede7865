-- The items of a document in which axioms are written: a frame with one section, or an item of its own (Manchester Syntax, sections 2.4 to 2.6).
use Rattle.std.specs.Prelude.{ℕ, Bool, true, false, if◌then◌else◌, List, [], ◌∷◌, ◌++◌, map, Option, None, Some}
use Rattle.std.specs.List.{flat_map}
use Rattle.std.specs.Option.{option_map, option_to_list}
use Rattle.man_raw.specs.declared.document.RawPart.{RawPart}
use Rattle.man_raw.specs.declared.form.Characteristic.{Characteristic}
use Rattle.man_raw.specs.declared.form.Characteristic.TheVariants as word
use Rattle.man_raw.specs.declared.form.Form.{Form}
use Rattle.man_raw.specs.declared.form.Form.TheVariants as form
use Rattle.man_raw.specs.declared.form.What.TheVariants as what
use Rattle.man_raw.specs.declared.heading.Heading.{Heading}
use Rattle.man_raw.specs.declared.heading.Heading.TheVariants as heading
use Rattle.man_raw.specs.declared.heading.Section.{Section}
use Rattle.man_raw.specs.declared.heading.Section.TheVariants as section
use Rattle.man_raw.specs.Documents.{DocumentTree, HeadTree, ItemTree}
use Rattle.man_raw.specs.Raws.{RawTree}
use Rattle.man_resolve.specs.declared.sentence.Sentence.{Sentence}
use Rattle.man_resolve.specs.declared.sentence.Sentence.TheVariants.{Beside, Ahead, Members, Properties, Key, Fact, Word}
use Rattle.man_resolve.specs.Expressions.{Knows}
use Rattle.man_resolve.specs.Items.{declaration_of}
use Rattle.man_resolve.specs.Places.{sentence_of}
use Rattle.man_sayable.specs.FrameKinds.{frame_kind}
use Rattle.owl_atom.specs.declared.prefixes.Prefix.{Prefix}
use Rattle.owl_doc.specs.Heads.{iri_in, version_in}
use Rattle.owl_kind.specs.declared.kind.Kind.{Kind}
use Rattle.owl_kind.specs.declared.kind.Kind.TheVariants as kind
use Rattle.owl_tree.specs.declared.atom.Atom.TheVariants as atom
use Rattle.owl_tree.specs.declared.tag.Tag.{Tag}
use Rattle.owl_tree.specs.declared.tag.Tag.TheVariants as tag
use Rattle.owl_tree.specs.declared.row.Sort.TheVariants as sort
use Rattle.owl_tree.specs.Rows.{admits}
use Rattle.owl_tree.specs.Ontologies.{Head, Ontology}
use Rattle.owl_tree.specs.Trees.{Tree, kids_in, leaf, node, tag_of}
use Rattle.written_trees.specs.Written.{written_form}
use Rattle.man_text.specs.Undecided.{piece, undecided}

-- ---- where an axiom is written

-- the keyword of its item, and of the section
pub record Where : Type 0 where
  pub heading : Heading
  pub section : Section

abbrev pub in_section : Heading → Section → Where
in_section h s = record { heading = h; section = s }

-- in an item of its own
abbrev pub alone : Heading → Where
alone h = in_section h section.Members

-- A property chain has a section of its own. The frames of declarations and of annotations go by what they are of.
unfoldable pub where_of : Tag → Bool → Where
where_of tag.SubClassOf chain = in_section heading.Class section.SubClassOf
where_of tag.EquivalentClasses chain = alone heading.EquivalentClasses
where_of tag.DisjointClasses chain = alone heading.DisjointClasses
where_of tag.DisjointUnion chain = in_section heading.Class section.DisjointUnionOf
where_of tag.SubObjectPropertyOf false = in_section heading.ObjectProperty section.SubPropertyOf
where_of tag.SubObjectPropertyOf true = in_section heading.ObjectProperty section.SubPropertyChain
where_of tag.EquivalentObjectProperties chain = alone heading.EquivalentProperties
where_of tag.DisjointObjectProperties chain = alone heading.DisjointProperties
where_of tag.InverseObjectProperties chain = in_section heading.ObjectProperty section.InverseOf
where_of tag.ObjectPropertyDomain chain = in_section heading.ObjectProperty section.Domain
where_of tag.ObjectPropertyRange chain = in_section heading.ObjectProperty section.Range
where_of tag.FunctionalObjectProperty chain = in_section heading.ObjectProperty section.Characteristics
where_of tag.InverseFunctionalObjectProperty chain = in_section heading.ObjectProperty section.Characteristics
where_of tag.ReflexiveObjectProperty chain = in_section heading.ObjectProperty section.Characteristics
where_of tag.IrreflexiveObjectProperty chain = in_section heading.ObjectProperty section.Characteristics
where_of tag.SymmetricObjectProperty chain = in_section heading.ObjectProperty section.Characteristics
where_of tag.AsymmetricObjectProperty chain = in_section heading.ObjectProperty section.Characteristics
where_of tag.TransitiveObjectProperty chain = in_section heading.ObjectProperty section.Characteristics
where_of tag.SubDataPropertyOf chain = in_section heading.DataProperty section.SubPropertyOf
where_of tag.EquivalentDataProperties chain = alone heading.EquivalentProperties
where_of tag.DisjointDataProperties chain = alone heading.DisjointProperties
where_of tag.DataPropertyDomain chain = in_section heading.DataProperty section.Domain
where_of tag.DataPropertyRange chain = in_section heading.DataProperty section.Range
where_of tag.FunctionalDataProperty chain = in_section heading.DataProperty section.Characteristics
where_of tag.DatatypeDefinition chain = in_section heading.Datatype section.EquivalentTo
where_of tag.HasKey chain = in_section heading.Class section.HasKey
where_of tag.SameIndividual chain = alone heading.SameIndividual
where_of tag.DifferentIndividuals chain = alone heading.DifferentIndividuals
where_of tag.ClassAssertion chain = in_section heading.Individual section.Types
where_of tag.ObjectPropertyAssertion chain = in_section heading.Individual section.Facts
where_of tag.NegativeObjectPropertyAssertion chain = in_section heading.Individual section.Facts
where_of tag.DataPropertyAssertion chain = in_section heading.Individual section.Facts
where_of tag.NegativeDataPropertyAssertion chain = in_section heading.Individual section.Facts
where_of tag.SubAnnotationPropertyOf chain = in_section heading.AnnotationProperty section.SubPropertyOf
where_of tag.AnnotationPropertyDomain chain = in_section heading.AnnotationProperty section.Domain
where_of tag.AnnotationPropertyRange chain = in_section heading.AnnotationProperty section.Range
where_of t chain = in_section heading.Individual section.Annotations

unfoldable pub kind_tag : Kind → Tag
kind_tag kind.Class = tag.Class
kind_tag kind.Datatype = tag.Datatype
kind_tag kind.ObjectProperty = tag.ObjectProperty
kind_tag kind.DataProperty = tag.DataProperty
kind_tag kind.AnnotationProperty = tag.AnnotationProperty
kind_tag kind.Individual = tag.NamedIndividual

-- the frame of an entity
unfoldable pub entity_heading : Tag → Heading
entity_heading tag.Class = heading.Class
entity_heading tag.Datatype = heading.Datatype
entity_heading tag.ObjectProperty = heading.ObjectProperty
entity_heading tag.DataProperty = heading.DataProperty
entity_heading tag.AnnotationProperty = heading.AnnotationProperty
entity_heading _ = heading.Individual

-- the word of a characteristic
unfoldable pub characteristic_of : Tag → Characteristic
characteristic_of tag.FunctionalObjectProperty = word.Functional
characteristic_of tag.FunctionalDataProperty = word.Functional
characteristic_of tag.InverseFunctionalObjectProperty = word.InverseFunctional
characteristic_of tag.ReflexiveObjectProperty = word.Reflexive
characteristic_of tag.IrreflexiveObjectProperty = word.Irreflexive
characteristic_of tag.SymmetricObjectProperty = word.Symmetric
characteristic_of tag.AsymmetricObjectProperty = word.Asymmetric
characteristic_of _ = word.Transitive

-- a fact, or one behind `not`
unfoldable pub fact_form : Tag → Form
fact_form tag.NegativeObjectPropertyAssertion = form.NegativeFact
fact_form tag.NegativeDataPropertyAssertion = form.NegativeFact
fact_form _ = form.Fact

abbrev pub is_chain : Tree → Bool
is_chain (node tag.ObjectPropertyChain ks) = true
is_chain _ = false

-- ---- how it is written there

-- an item: its keyword, what it is of where it is a frame, and its parts
pub record Block : Type 0 where
  pub heading : Heading
  pub subject : Option Tree
  pub parts : List RawPart

abbrev pub a_part : Section → Tree → RawTree → List RawPart
a_part s notes body = record { at = 0; section = s; notes = undecided notes; body = body } ∷ []

abbrev pub frame : Where → Tree → Tree → RawTree → Block
frame w subject notes body = record { heading = w.heading; subject = Some subject; parts = a_part w.section notes body }

abbrev pub unframed : Where → Tree → RawTree → Block
unframed w notes body = record { heading = w.heading; subject = None; parts = a_part w.section notes body }

abbrev pub listed : List Tree → RawTree
listed ts = piece (what.Form form.List) (map undecided ts)

abbrev pub pair : Form → Tree → Tree → RawTree
pair f property value = piece (what.Form f) (undecided property ∷ undecided value ∷ [])

-- as what its sentence takes it: the kids of the axiom in the order of the text
abbrev pub stated : Where → Sentence → Tag → List Tree → Block
stated w (Beside u p) t (notes ∷ subject ∷ body ∷ []) = frame w subject notes (undecided body)
stated w (Ahead u p) t (notes ∷ body ∷ subject ∷ []) = frame w subject notes (undecided body)
stated w (Members tag.DisjointUnion p) t (notes ∷ subject ∷ ts) = frame w subject notes (listed ts)
stated w (Members u p) t (notes ∷ ts) = unframed w notes (listed ts)
stated w (Properties by) t (notes ∷ ts) = unframed w notes (listed ts)
stated w Key t (notes ∷ subject ∷ objects ∷ datas ∷ []) = frame w subject notes (listed (kids_in objects ++ kids_in datas))
stated w Fact t (notes ∷ property ∷ subject ∷ value ∷ []) = frame w subject notes (pair (fact_form t) property value)
stated w Word t (notes ∷ subject ∷ []) = frame w subject notes (piece (what.Word (characteristic_of t)) [])
stated w _ t ts = record { heading = w.heading; subject = None; parts = [] }

-- the frame of what an annotation is about: of the first kind that the IRI has, or of an anonymous individual
abbrev pub subject_as : Option Kind → List ℕ → Tree
subject_as None iri = leaf tag.PlainIri (atom.Iri iri)
subject_as (Some k) iri = leaf (kind_tag k) (atom.Iri iri)

abbrev pub note_subject : Knows → Tree → Tree
note_subject ks (leaf t (atom.Iri iri)) = subject_as (frame_kind ks iri) iri
note_subject ks t = t

abbrev pub noted : Tree → Tree → Tree → Tree → Block
noted subject notes property value =
    frame (in_section (entity_heading (tag_of subject)) section.Annotations) subject notes (pair form.Assertion property value)

abbrev pub declared : Tree → Block
declared entity = record { heading = entity_heading (tag_of entity); subject = Some entity; parts = [] }

abbrev pub begins_with_chain : List Tree → Bool
begins_with_chain (notes ∷ t ∷ ts) = is_chain t
begins_with_chain _ = false

-- the block of an axiom with the tag and these kids
abbrev pub block_with : Knows → Tag → List Tree → Block
block_with ks tag.Declaration (notes ∷ entity ∷ []) = declared entity
block_with ks tag.AnnotationAssertion (notes ∷ property ∷ subject ∷ value ∷ []) = noted (note_subject ks subject) notes property value
block_with ks t ts = let w = where_of t (begins_with_chain ts) in stated w (sentence_of w.heading w.section) t ts

-- the block of an axiom, as it is written
abbrev pub block_of : Knows → Tree → Block
block_of ks t = block_with ks (tag_of t) (kids_in (written_form t))

abbrev pub item_of : Block → ItemTree
item_of b = record { at = 0; heading = b.heading; name = option_map undecided b.subject; parts = b.parts }

-- ---- documents

-- a name is declared as what it is, and nothing else is
abbrev pub declared_name : Tree → List Tree
declared_name (leaf t a) = if admits sort.Entity t then declaration_of (leaf t a) else []
declared_name (node t ks) = []

-- the declaration of the name that heads the block of the axiom
abbrev pub headed : Knows → Tree → List Tree
headed ks t = flat_map declared_name (option_to_list (block_of ks t).subject)

-- The normal form: each name that heads a block is declared.
abbrev pub normal_form : Knows → Ontology → Ontology
normal_form ks o = record o { axioms = o.axioms ++ flat_map (headed ks) o.axioms }

abbrev pub notes_of : List Tree → List RawTree
notes_of [] = []
notes_of (t ∷ ts) = piece (what.Form form.Notes) (map (λ u. undecided (written_form u)) (t ∷ ts)) ∷ []

abbrev pub head_tree : Head → HeadTree
head_tree h = record { iri = iri_in h.name; version = version_in h.name; imports = h.imports }

-- the document that an ontology is written as, in the order of its lists
abbrev pub document_of : Knows → List Prefix → Ontology → DocumentTree
document_of ks prefixes o = record {
  head = head_tree o.head;
  prefixes = prefixes;
  notes = notes_of o.annotations;
  items = map (λ t. item_of (block_of ks t)) o.axioms;
}
