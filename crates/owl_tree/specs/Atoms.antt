-- What atoms are (Structural Specification, sections 2.4, 5.6.2, 5.7 and 8.3).
use Rattle.std.specs.Prelude.{◌<◌, ◌^◌}
use Rattle.owl_characters.specs.Iri.{IsIri}
use Rattle.owl_characters.specs.Names.{IsLabel}
use Rattle.rdf_terms.specs.Literals.{IsLiteral}
use Rattle.owl_tree.specs.declared.atom.Atom.{Atom}
use Rattle.owl_tree.specs.declared.atom.Atom.TheVariants.{Iri, Label, Literal, Number}

-- a full IRI, the label of an anonymous individual, a literal, or a number of 64 bits
abbrev pub IsAtom : Atom → Type 0
IsAtom (Iri iri) = IsIri iri
IsAtom (Label label) = IsLabel label
IsAtom (Literal literal) = IsLiteral literal
IsAtom (Number number) = number < 2 ^ 64
