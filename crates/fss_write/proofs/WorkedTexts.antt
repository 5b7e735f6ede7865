-- What the definitions say of some texts, worked out by hand.
use lib.Utf8.{encode}
use Rattle.std.specs.Prelude.{◌≡◌, ℕ, true, false, List, [], ◌∷◌, None, Some, codes}
use Rattle.std.proofs.Common.{refl}
use Rattle.std.specs.Fmt.{digits}
use Rattle.owl_atom.specs.declared.prefixes.Prefix.{Prefix}
use Rattle.rdf_terms.specs.Literals.{of_datatype, string, with_tag}
use Rattle.rdf_terms.specs.Vocabulary.{rdfs}
use Rattle.owl_tree.specs.declared.atom.Atom.TheVariants as atom
use Rattle.owl_tree.specs.declared.tag.Tag.{Tag}
use Rattle.owl_tree.specs.declared.tag.Tag.TheVariants as tag
use Rattle.owl_tree.specs.Ontologies.{Ontology}
use Rattle.owl_tree.specs.Rows.{row_of}
use Rattle.owl_tree.specs.Tags.{keyword_of, number_of}
use Rattle.owl_tree.specs.Trees.{Tree, kids_of, leaf, node}
use Rattle.fss_write.specs.Text.{axiom_text, text_of}

abbrev over : Tag → List Tree → Tree
over t kids = node t (kids_of kids)

abbrev named : Tag → List ℕ → Tree
named t iri = leaf t (atom.Iri iri)

abbrev A : Tree
A = named tag.Class (codes "e:A")

abbrev B : Tree
B = named tag.Class (codes "e:B")

abbrev p : Tree
p = named tag.ObjectProperty (codes "e:p")

abbrev no_notes : Tree
no_notes = over tag.Notes []

abbrev held : List ℕ → List ℕ → Tree
held form datatype = leaf tag.Literal (atom.Literal (of_datatype form datatype))

abbrev nothing : Ontology
nothing = record { head = record { name = None; imports = [] }; annotations = []; axioms = [] }

-- no prefixes of its own
four_lines : text_of [] nothing
    ≡ codes "Prefix(owl:=<http://www.w3.org/2002/07/owl#>)\nPrefix(rdf:=<http://www.w3.org/1999/02/22-rdf-syntax-ns#>)\nPrefix(rdfs:=<http://www.w3.org/2000/01/rdf-schema#>)\nPrefix(xsd:=<http://www.w3.org/2001/XMLSchema#>)\nOntology(\n)\n"
unfolding encode
four_lines = refl

-- prefixes of its own, of which one stood for another IRI
abbrev own_prefixes : List Prefix
own_prefixes =
    record { name = []; iri = codes "e:"; fixed = false; declared = true }
    ∷ record { name = codes "rdf"; iri = codes "e:rdf"; fixed = true; declared = true }
    ∷ record { name = codes "z"; iri = codes "e:z#"; fixed = false; declared = true } ∷ []

-- a name, a version, an import, and an annotation
abbrev small : Ontology
small = record {
  head = record { name = Some (record { iri = codes "e:o"; version = Some (codes "e:v") }); imports = codes "e:i" ∷ [] };
  annotations = over tag.Annotation (no_notes ∷ named tag.AnnotationProperty (rdfs (codes "label")) ∷ leaf tag.Literal (atom.Literal (with_tag (codes "a") (codes "en"))) ∷ []) ∷ [];
  axioms = over tag.Declaration (no_notes ∷ A ∷ []) ∷ over tag.SubClassOf (no_notes ∷ named tag.Class (codes "e:z#C") ∷ named tag.Class (codes "e:9") ∷ []) ∷ [];
}

small_lines : text_of own_prefixes small
    ≡ codes "Prefix(:=<e:>)\nPrefix(owl:=<http://www.w3.org/2002/07/owl#>)\nPrefix(rdf:=<http://www.w3.org/1999/02/22-rdf-syntax-ns#>)\nPrefix(rdfs:=<http://www.w3.org/2000/01/rdf-schema#>)\nPrefix(xsd:=<http://www.w3.org/2001/XMLSchema#>)\nPrefix(z:=<e:z#>)\nOntology(<e:o> <e:v>\nImport(<e:i>)\nAnnotation(rdfs:label \"a\"@en)\nDeclaration(Class(:A))\nSubClassOf(z:C <e:9>)\n)\n"
unfolding encode keyword_of row_of number_of
small_lines = refl

-- one member where two are asked for stands twice, also behind annotations
one_of_two : axiom_text (over tag.EquivalentClasses (no_notes ∷ over tag.ObjectUnionOf (A ∷ []) ∷ [])) ≡ codes "EquivalentClasses(ObjectUnionOf(<e:A> <e:A>) ObjectUnionOf(<e:A> <e:A>))"
unfolding keyword_of row_of number_of
one_of_two = refl

two_of_two : axiom_text (over tag.InverseObjectProperties (no_notes ∷ p ∷ over tag.ObjectInverseOf (p ∷ []) ∷ [])) ≡ codes "InverseObjectProperties(<e:p> ObjectInverseOf(<e:p>))"
unfolding keyword_of row_of number_of
two_of_two = refl

-- annotations of annotations, and the groups of a key
nested : axiom_text
    (over tag.HasKey (
    over tag.Notes (over tag.Annotation (over tag.Notes (over tag.Annotation (no_notes ∷ named tag.AnnotationProperty (codes "e:c") ∷ leaf tag.Anonymous (atom.Label (codes "x")) ∷ []) ∷ []) ∷ named tag.AnnotationProperty (codes "e:l") ∷ named tag.PlainIri (codes "e:o") ∷ []) ∷ [])
    ∷ A ∷ over tag.ObjectKeys (p ∷ []) ∷ over tag.DataKeys [] ∷ []))
    ≡ codes "HasKey(Annotation(Annotation(<e:c> _:x) <e:l> <e:o>) <e:A> (<e:p>) ())"
unfolding keyword_of row_of number_of
nested = refl

-- facets, numbers, and literals with escapes
restricted : axiom_text
    (over tag.SubClassOf (no_notes ∷ over tag.ObjectMinCardinality (leaf tag.Number (atom.Number 12) ∷ p ∷ [])
    ∷ over tag.DataSomeValuesFrom (named tag.DataProperty (codes "e:d") ∷ over tag.DatatypeRestriction (named tag.Datatype (codes "e:t") ∷ over tag.FacetPair (named tag.Facet (codes "e:f") ∷ held (codes "a\"\\") string ∷ []) ∷ over tag.FacetPair (named tag.Facet (codes "e:g") ∷ held (codes "1") (codes "e:t") ∷ []) ∷ []) ∷ []) ∷ []))
    ≡ codes "SubClassOf(ObjectMinCardinality(12 <e:p>) DataSomeValuesFrom(<e:d> DatatypeRestriction(<e:t> <e:f> \"a\\\"\\\\\" <e:g> \"1\"^^<e:t>)))"
unfolding keyword_of row_of number_of digits
restricted = refl
