-- What leaves hold, in characters, in Functional-Style Syntax (Structural Specification, sections 2.4 and 5.7) and in
-- Manchester Syntax (section 2.1) alike.
use Rattle.std.specs.Prelude.{ℕ, List, ◌++◌, codes, flat_map}
use Rattle.std.specs.Fmt.{decimal}
use Rattle.owl_tokens.specs.Tokens.{character_spelling}
use Rattle.owl_atom.specs.declared.prefixes.Prefix.{Prefix}
use Rattle.rdf_terms.specs.Literals.{LiteralParts}
use Rattle.owl_tree.specs.declared.atom.Atom.{Atom}
use Rattle.owl_tree.specs.declared.atom.Atom.TheVariants.{Iri, Label, Literal, Number}
use Rattle.owl_writing.specs.Terms.{iri_text, label_text, literal_end}

abbrev pub string_text : List ℕ → List ℕ
string_text form = codes "\"" ++ (flat_map character_spelling form ++ codes "\"")

abbrev pub literal_text : List Prefix → LiteralParts → List ℕ
literal_text prefixes literal = string_text literal.lexical ++ literal_end prefixes literal.datatype literal.tag

abbrev pub atom_text : List Prefix → Atom → List ℕ
atom_text prefixes (Iri iri) = iri_text prefixes iri
atom_text prefixes (Label label) = label_text label
atom_text prefixes (Literal literal) = literal_text prefixes literal
atom_text prefixes (Number number) = decimal number
