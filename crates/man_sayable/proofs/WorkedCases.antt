-- What the definitions say of some axioms, worked out by hand.
use lib.Utf8.{encode}
use Rattle.std.specs.Prelude.{◌≡◌, ℕ, List, [], ◌∷◌, Option, None, Some, codes, false}
use Rattle.std.proofs.Common.{refl}
use Rattle.owl_kind.specs.Kinds.{is_built_in}
use Rattle.owl_kind.specs.declared.kind.Kind.TheVariants.{Class, Individual}
use Rattle.owl_tree.specs.declared.atom.Atom.TheVariants as atom
use Rattle.owl_tree.specs.declared.tag.Tag.{Tag}
use Rattle.owl_tree.specs.declared.tag.Tag.TheVariants as tag
use Rattle.owl_tree.specs.Tags.{number_of}
use Rattle.owl_tree.specs.Trees.{Tree, leaf, node, kids_of}
use Rattle.rdf_terms.specs.Vocabulary.{xsd}
use Rattle.man_resolve.specs.Expressions.{knows}
use Rattle.man_resolve.specs.Places.{facet_iri}
use Rattle.sayable_parts.specs.Reasons.{Objection, annotated_declaration, facet_name, inverse_assertion, inverse_subject, many_properties, two_inverses, undeclared_subject, unnamed_subject}
use Rattle.man_sayable.specs.FrameKinds.{frame_kind}
use Rattle.man_sayable.specs.Sayable.{axiom_objection, frame_objection}
use Rattle.man_sayable.specs.Subjects.{subject_of}

abbrev named : Tag → List ℕ → Tree
named t iri = leaf t (atom.Iri iri)

abbrev over : Tag → List Tree → Tree
over t kids = node t (kids_of kids)

abbrev no_notes : Tree
no_notes = over tag.Notes []

-- an axiom without annotations
abbrev states : Tag → List Tree → Tree
states t kids = over t (no_notes ∷ kids)

-- ObjectProperty(<e:p>), and its inverse
abbrev property : Tree
property = named tag.ObjectProperty (codes "e:p")

abbrev inverse : Tree
inverse = over tag.ObjectInverseOf (property ∷ [])

abbrev class : Tree
class = named tag.Class (codes "e:A")

abbrev some_one : Tree
some_one = named tag.NamedIndividual (codes "e:i")

abbrev literal : Tree
literal = leaf tag.Literal (atom.Literal (record { lexical = codes "1"; datatype = codes "e:D"; tag = None }))

-- DatatypeRestriction(<e:D> facet "1"^^<e:D>)
abbrev restricts : List ℕ → Tree
restricts facet = over tag.DatatypeRestriction (named tag.Datatype (codes "e:D") ∷ over tag.FacetPair (named tag.Facet facet ∷ literal ∷ []) ∷ [])

-- DataSomeValuesFrom(<e:q> .. range)
abbrev quantifies : List Tree → Tree
quantifies kids = over tag.DataSomeValuesFrom (named tag.DataProperty (codes "e:q") ∷ kids)

-- where nothing is declared
abbrev objection : Tree → Option Objection
objection t = axiom_objection (knows []) t

unnamed : objection (states tag.SubClassOf (over tag.ObjectComplementOf (class ∷ []) ∷ class ∷ [])) ≡ Some unnamed_subject
unfolding number_of subject_of
unnamed = refl

key_of_unnamed : objection (states tag.HasKey (over tag.ObjectComplementOf (class ∷ []) ∷ over tag.ObjectKeys (property ∷ []) ∷ over tag.DataKeys [] ∷ [])) ≡ Some unnamed_subject
unfolding number_of subject_of
key_of_unnamed = refl

inverse_is_functional : objection (states tag.FunctionalObjectProperty (inverse ∷ [])) ≡ Some inverse_subject
unfolding number_of subject_of
inverse_is_functional = refl

-- a chain below an inverse property, and below a name
chain_below : Tree → Tree
chain_below super = states tag.SubObjectPropertyOf (over tag.ObjectPropertyChain (inverse ∷ property ∷ []) ∷ super ∷ [])

below_inverse : objection (chain_below inverse) ≡ Some inverse_subject
unfolding number_of subject_of chain_below
below_inverse = refl

below_name : objection (chain_below property) ≡ None
unfolding number_of subject_of frame_objection chain_below
below_name = refl

-- an inverse property may stand above a name
above_name : objection (states tag.SubObjectPropertyOf (property ∷ inverse ∷ [])) ≡ None
unfolding number_of subject_of frame_objection
above_name = refl

inverses : objection (states tag.InverseObjectProperties (inverse ∷ inverse ∷ [])) ≡ Some two_inverses
unfolding number_of subject_of
inverses = refl

one_inverse : objection (states tag.InverseObjectProperties (property ∷ inverse ∷ [])) ≡ None
unfolding number_of subject_of frame_objection
one_inverse = refl

fact_by_inverse : objection (states tag.NegativeObjectPropertyAssertion (inverse ∷ some_one ∷ some_one ∷ [])) ≡ Some inverse_assertion
unfolding number_of subject_of
fact_by_inverse = refl

-- a second property is told before a facet, wherever they stand
several : objection (states tag.EquivalentClasses (class ∷ quantifies (restricts (codes "e:f") ∷ []) ∷ quantifies (named tag.DataProperty (codes "e:r") ∷ restricts (codes "e:f") ∷ []) ∷ [])) ≡ Some many_properties
unfolding encode number_of subject_of facet_iri
several = refl

-- and both behind the subject
subject_first : objection (states tag.SubClassOf (quantifies (restricts (codes "e:f") ∷ []) ∷ class ∷ [])) ≡ Some unnamed_subject
unfolding number_of subject_of
subject_first = refl

other_facet : objection (states tag.SubClassOf (class ∷ quantifies (restricts (codes "e:f") ∷ []) ∷ [])) ≡ Some (facet_name (codes "e:f"))
unfolding encode number_of subject_of facet_iri
other_facet = refl

known_facet : objection (states tag.SubClassOf (class ∷ quantifies (restricts (xsd (codes "length")) ∷ []) ∷ [])) ≡ None
unfolding encode number_of subject_of facet_iri frame_objection
known_facet = refl

-- Annotation(<e:n> <e:i>)
abbrev note : Tree
note = over tag.Annotation (no_notes ∷ named tag.AnnotationProperty (codes "e:n") ∷ named tag.PlainIri (codes "e:i") ∷ [])

annotated : objection (over tag.Declaration (over tag.Notes (note ∷ []) ∷ class ∷ [])) ≡ Some annotated_declaration
unfolding number_of subject_of frame_objection
annotated = refl

bare : objection (states tag.Declaration (class ∷ [])) ≡ None
unfolding number_of subject_of frame_objection
bare = refl

-- AnnotationAssertion(<e:n> <e:i> <e:i>)
abbrev says_of : Tree → Tree
says_of subject = states tag.AnnotationAssertion (named tag.AnnotationProperty (codes "e:n") ∷ subject ∷ named tag.PlainIri (codes "e:i") ∷ [])

of_undeclared : axiom_objection (λ kind iri. false) (says_of (named tag.PlainIri (codes "e:i"))) ≡ Some (undeclared_subject (codes "e:i"))
unfolding number_of subject_of frame_objection
of_undeclared = refl

of_anonymous : axiom_objection (λ kind iri. false) (says_of (leaf tag.Anonymous (atom.Label (codes "a")))) ≡ None
unfolding number_of subject_of frame_objection
of_anonymous = refl

-- what is both a class and an individual has the frame of a class
of_two_kinds : frame_kind (knows (record { kind = Individual; iri = codes "e:i" } ∷ record { kind = Class; iri = codes "e:i" } ∷ [])) (codes "e:i") ≡ Some Class
unfolding encode knows is_built_in
of_two_kinds = refl
