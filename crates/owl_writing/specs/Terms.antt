-- How IRIs, labels and the ends of literals are written, in Functional-Style Syntax (Structural Specification, sections 2.4
-- and 5.7) and in Turtle (RDF 1.1 Turtle, sections 2.4 to 2.6) alike.
use Rattle.std.specs.Prelude.{ℕ, if◌then◌else◌, List, [], ◌++◌, codes, Option, None, Some}
use Rattle.owl_characters.specs.Order.{text_eq}
use Rattle.owl_atom.specs.declared.prefixes.Prefix.{Prefix}
use Rattle.rdf_terms.specs.Literals.{string}
use Rattle.owl_writing.specs.Abbreviations.{best_prefix, local_behind}

abbrev pub full_iri : List ℕ → List ℕ
full_iri iri = codes "<" ++ (iri ++ codes ">")

abbrev pub shortened_by : Option Prefix → List ℕ → List ℕ
shortened_by None iri = full_iri iri
shortened_by (Some prefix) iri = prefix.name ++ (codes ":" ++ local_behind prefix iri)

-- abbreviated where one of the prefixes leaves a plain local part, else in full
abbrev pub iri_text : List Prefix → List ℕ → List ℕ
iri_text prefixes iri = shortened_by (best_prefix iri prefixes) iri

abbrev pub label_text : List ℕ → List ℕ
label_text label = codes "_:" ++ label

-- what stands behind the string of a literal: nothing behind one of xsd:string, and else its language tag or its datatype
abbrev pub literal_end : List Prefix → List ℕ → Option (List ℕ) → List ℕ
literal_end prefixes datatype None = if text_eq datatype string then [] else codes "^^" ++ iri_text prefixes datatype
literal_end prefixes datatype (Some tag) = codes "@" ++ tag
