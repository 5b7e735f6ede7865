-- What the definitions say of some axioms, worked out by hand.
use lib.Utf8.{encode}
use Rattle.std.specs.Prelude.{◌≡◌, ℕ, List, [], ◌∷◌, None, Some, codes}
use Rattle.std.proofs.Common.{refl}
use Rattle.owl_kind.specs.Kinds.{annotation_properties, is_built_in}
use Rattle.owl_tree.specs.declared.atom.Atom.TheVariants as atom
use Rattle.owl_tree.specs.declared.tag.Tag.{Tag}
use Rattle.owl_tree.specs.declared.tag.Tag.TheVariants as tag
use Rattle.owl_tree.specs.Trees.{Tree, leaf, node, kids_of}
use Rattle.rdf_terms.specs.Datatypes.{datatype_map, is_in_map, ordered_row}
use Rattle.rdf_terms.specs.Vocabulary.{is_reserved, owl, rdf, rdfs, xsd}
use Rattle.owl_doc.specs.Parts.{leaves}
use Rattle.sayable_parts.specs.Reasons.{facet_name, reserved}
use Rattle.rdf_sayable.specs.Sayable.{first_objection, iri_objection}

abbrev named : Tag → List ℕ → Tree
named t iri = leaf t (atom.Iri iri)

abbrev over : Tag → List Tree → Tree
over t kids = node t (kids_of kids)

abbrev no_notes : Tree
no_notes = over tag.Notes []

abbrev literal : Tree
literal = leaf tag.Literal (atom.Literal (record { lexical = codes "1"; datatype = codes "e:D"; tag = None }))

abbrev declares : Tag → List ℕ → Tree
declares t iri = over tag.Declaration (no_notes ∷ named t iri ∷ [])

-- DataPropertyRange(<e:q> DatatypeRestriction(<e:D> facet "1"^^<e:D>))
abbrev restricts : List ℕ → Tree
restricts facet =
    over tag.DataPropertyRange (
    no_notes
    ∷ named tag.DataProperty (codes "e:q")
    ∷ over tag.DatatypeRestriction (named tag.Datatype (codes "e:D") ∷ over tag.FacetPair (named tag.Facet facet ∷ literal ∷ []) ∷ [])
    ∷ [])

-- what is built in may be declared again
built_in : first_objection (leaves (declares tag.Class (owl (codes "Thing")))) ≡ None
unfolding encode is_built_in is_reserved iri_objection
built_in = refl

-- rdfs:Literal is built in as a datatype alone
other_kind : first_objection (leaves (declares tag.Class (rdfs (codes "Literal")))) ≡ Some (reserved (rdfs (codes "Literal")))
unfolding encode is_built_in is_reserved iri_objection
other_kind = refl

-- a datatype of the datatype map
in_the_map : first_objection (leaves (declares tag.Datatype (owl (codes "real")))) ≡ None
unfolding encode is_built_in is_reserved is_in_map datatype_map ordered_row iri_objection
in_the_map = refl

-- no individual is built in
individual : first_objection (leaves (declares tag.NamedIndividual (owl (codes "Thing")))) ≡ Some (reserved (owl (codes "Thing")))
unfolding encode is_built_in is_reserved iri_objection
individual = refl

-- each IRI of XML Schema is a datatype and may be a facet
schema_facet : first_objection (leaves (restricts (xsd (codes "new")))) ≡ None
unfolding encode is_built_in is_reserved iri_objection
schema_facet = refl

language_facet : first_objection (leaves (restricts (rdf (codes "langRange")))) ≡ None
unfolding encode is_built_in is_reserved iri_objection
language_facet = refl

other_facet : first_objection (leaves (restricts (codes "e:f"))) ≡ Some (facet_name (codes "e:f"))
unfolding encode is_built_in is_reserved iri_objection
other_facet = refl

reserved_facet : first_objection (leaves (restricts (rdf (codes "langRanges")))) ≡ Some (facet_name (rdf (codes "langRanges")))
unfolding encode is_built_in is_reserved iri_objection
reserved_facet = refl

-- SubClassOf(Annotation(rdfs:label owl:real) <e:A> ObjectSomeValuesFrom(rdf:type owl:Class)): the value of an annotation is no
-- entity, and the first from left to right is told
abbrev several : Tree
several =
    over tag.SubClassOf (
    over tag.Notes (over tag.Annotation (no_notes ∷ named tag.AnnotationProperty (rdfs (codes "label")) ∷ named tag.PlainIri (owl (codes "real")) ∷ []) ∷ [])
    ∷ named tag.Class (codes "e:A")
    ∷ over tag.ObjectSomeValuesFrom (named tag.ObjectProperty (rdf (codes "type")) ∷ named tag.Class (owl (codes "Class")) ∷ [])
    ∷ [])

from_the_left : first_objection (leaves several) ≡ Some (reserved (rdf (codes "type")))
unfolding encode is_built_in is_reserved annotation_properties iri_objection
from_the_left = refl
