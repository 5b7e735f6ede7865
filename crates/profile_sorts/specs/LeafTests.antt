-- What single leaves are tested for by the grammars of the profiles.
use Rattle.std.specs.Prelude.{ℕ, Bool, false, ◌||◌, not, nat_le, List, [], ◌∷◌, codes, map}
use Rattle.owl_kind.specs.declared.kind.Kind.TheVariants as kind
use Rattle.owl_kind.specs.Kinds.{is_built_in}
use Rattle.owl_tree.specs.declared.atom.Atom.{Atom}
use Rattle.owl_tree.specs.declared.atom.Atom.TheVariants as atom
use Rattle.rdf_terms.specs.Datatypes.{has, is_in_map}
use Rattle.rdf_terms.specs.Vocabulary.{owl, rdf, rdfs, xsd}
use Rattle.profile_sorts.specs.declared.leaf_test.LeafTest.{LeafTest}
use Rattle.profile_sorts.specs.declared.leaf_test.LeafTest.TheVariants.{Thing, NotThing, SharedDatatype, RlDatatype, OrdinaryObjectProperty, OrdinaryDataProperty, ZeroOrOne}

-- the datatypes of EL and QL (OWL 2 Profiles, sections 2.2.1 and 3.2.1)
unfoldable pub shared_datatypes : List (List ℕ)
shared_datatypes =
    rdf (codes "PlainLiteral") ∷ rdf (codes "XMLLiteral") ∷ rdfs (codes "Literal") ∷ owl (codes "real") ∷ owl (codes "rational")
    ∷ map xsd (codes "decimal" ∷ codes "integer" ∷ codes "nonNegativeInteger" ∷ codes "string" ∷ codes "normalizedString"
    ∷ codes "token" ∷ codes "Name" ∷ codes "NCName" ∷ codes "NMTOKEN" ∷ codes "hexBinary" ∷ codes "base64Binary" ∷ codes "anyURI"
    ∷ codes "dateTime" ∷ codes "dateTimeStamp" ∷ [])

-- An IRI passes. Built in as properties are the top and the bottom one alone.
unfoldable pub name_passes : LeafTest → List ℕ → Bool
name_passes Thing iri = has (owl (codes "Thing") ∷ []) iri
name_passes NotThing iri = not (has (owl (codes "Thing") ∷ []) iri)
name_passes SharedDatatype iri = not (is_in_map iri) || has shared_datatypes iri
name_passes RlDatatype iri = not (has (owl (codes "real") ∷ owl (codes "rational") ∷ []) iri)
name_passes OrdinaryObjectProperty iri = not (is_built_in kind.ObjectProperty iri)
name_passes OrdinaryDataProperty iri = not (is_built_in kind.DataProperty iri)
name_passes ZeroOrOne iri = false

abbrev pub number_passes : LeafTest → ℕ → Bool
number_passes ZeroOrOne n = nat_le n 1
number_passes _ n = false

-- what a leaf holds passes; of a literal the datatype is looked at
abbrev pub passes : LeafTest → Atom → Bool
passes test (atom.Iri iri) = name_passes test iri
passes test (atom.Label label) = false
passes test (atom.Literal literal) = name_passes test literal.datatype
passes test (atom.Number number) = number_passes test number
