-- What can be said in RDF (Mapping to RDF Graphs, sections 2 and 3).
use Rattle.std.specs.Prelude.{◌≡◌, ℕ, Bool, ◌||◌, if◌then◌else◌, nat_eq, List, [], ◌∷◌, Option, None, Some, codes}
use Rattle.std.specs.List.{AllByRecursion, starts_with}
use Rattle.std.specs.Option.{option_or}
use Rattle.owl_characters.specs.Order.{text_eq}
use Rattle.owl_doc.specs.Entities.{is_misused}
use Rattle.owl_kind.specs.declared.kind.Kind.{Kind}
use Rattle.owl_kind.specs.declared.kind.Kind.TheVariants.{Class, Datatype, ObjectProperty, DataProperty, AnnotationProperty, Individual}
use Rattle.owl_tree.specs.declared.atom.Atom.{Atom}
use Rattle.owl_tree.specs.declared.atom.Atom.TheVariants as atom
use Rattle.owl_tree.specs.declared.tag.Tag.{Tag}
use Rattle.owl_tree.specs.declared.tag.Tag.TheVariants as tag
use Rattle.owl_tree.specs.Ontologies.{Ontology}
use Rattle.rdf_terms.specs.Vocabulary.{rdf, xsd}
use Rattle.owl_doc.specs.Parts.{Leaf, Part, leaves_in}
use Rattle.sayable_parts.specs.Reasons.{Objection, facet_name, reserved}
use Rattle.sayable_parts.specs.Unsaid.{IsFirstUnsaid, Says, SaysAll}

-- By its predicate alone a triple is known to say a facet, so each facet has an IRI of XML Schema, or is rdf:langRange.
abbrev pub is_facet_name : List ℕ → Bool
is_facet_name iri = starts_with nat_eq iri (xsd []) || text_eq (rdf (codes "langRange")) iri

abbrev pub entity_objection : Kind → List ℕ → Option Objection
entity_objection kind iri = if is_misused kind iri then Some (reserved iri) else None

abbrev pub facet_objection : List ℕ → Option Objection
facet_objection iri = if is_facet_name iri then None else Some (facet_name iri)

-- against the IRI of a leaf with this tag: those of entities and of facets
unfoldable pub iri_objection : Tag → List ℕ → Option Objection
iri_objection tag.Class iri = entity_objection Class iri
iri_objection tag.Datatype iri = entity_objection Datatype iri
iri_objection tag.ObjectProperty iri = entity_objection ObjectProperty iri
iri_objection tag.DataProperty iri = entity_objection DataProperty iri
iri_objection tag.AnnotationProperty iri = entity_objection AnnotationProperty iri
iri_objection tag.NamedIndividual iri = entity_objection Individual iri
iri_objection tag.Facet iri = facet_objection iri
iri_objection _ iri = None

abbrev pub atom_objection : Tag → Atom → Option Objection
atom_objection t (atom.Iri iri) = iri_objection t iri
atom_objection t _ = None

-- what is to be said against a leaf
abbrev pub objection : Leaf → Option Objection
objection l = atom_objection l.tag l.atom

-- and first of all against some leaves
abbrev pub first_objection : List Leaf → Option Objection
first_objection [] = None
first_objection (l ∷ ls) = option_or (objection l) (first_objection ls)

-- nothing is to be said against the leaves
abbrev pub AreSayable : List Leaf → Type 0
AreSayable ls = AllByRecursion (λ l. objection l ≡ None) ls

-- what is to be said first against a part
abbrev pub part_objection : Part → Option Objection
part_objection part = first_objection (leaves_in part)

-- the part can be said in RDF
abbrev pub CanSay : Part → Type 0
CanSay part = Says part_objection part

-- all that the ontology says can be said in RDF
abbrev pub CanSayAll : Ontology → Type 0
CanSayAll o = SaysAll part_objection o

-- the first part of the ontology that can't be said, its header before its axioms in canonical order
abbrev pub IsFirstUnsayable : Ontology → Part → Objection → Type 0
IsFirstUnsayable o part why = IsFirstUnsaid part_objection o part why
