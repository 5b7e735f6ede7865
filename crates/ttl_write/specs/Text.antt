-- The text of a graph in Turtle, in characters: one for the prefixes and the triples (RDF 1.1 Turtle, sections 2 and 6.5).
use Rattle.std.specs.Prelude.{ℕ, ◌==◌, if◌then◌else◌, List, [], ◌∷◌, ◌++◌, codes, flat_map}
use Rattle.owl_atom.specs.declared.prefixes.Prefix.{Prefix}
use Rattle.rdf_terms.specs.Literals.{LiteralParts}
use Rattle.rdf_graph.specs.declared.term.Term.{Term}
use Rattle.rdf_graph.specs.declared.term.Term.TheVariants.{Iri, Blank, Literal}
use Rattle.rdf_graph.specs.declared.triple.Triple.{Triple}
use Rattle.owl_writing.specs.Tables.{written_prefixes}
use Rattle.owl_writing.specs.Terms.{full_iri, iri_text, label_text, literal_end}

-- A character of a string between quotes. A quote, a backslash, a line feed and a carriage return don't stand there as they
-- are (STRING_LITERAL_QUOTE and ECHAR of section 6.5).
abbrev pub character_text : ℕ → List ℕ
character_text c =
    if c == 0x22 then codes "\\\""
    else if c == 0x5C then codes "\\\\"
    else if c == 0x0A then codes "\\n"
    else if c == 0x0D then codes "\\r"
    else c ∷ []

abbrev pub string_text : List ℕ → List ℕ
string_text form = codes "\"" ++ (flat_map character_text form ++ codes "\"")

-- section 2.5
abbrev pub literal_text : List Prefix → LiteralParts → List ℕ
literal_text prefixes literal = string_text literal.lexical ++ literal_end prefixes literal.datatype literal.tag

-- sections 2.4 to 2.6
abbrev pub term_text : List Prefix → Term → List ℕ
term_text prefixes (Iri iri) = iri_text prefixes iri
term_text prefixes (Blank label) = label_text label
term_text prefixes (Literal literal) = literal_text prefixes literal

-- section 2.4
abbrev pub namespace_line : List ℕ → List ℕ → List ℕ
namespace_line name iri = codes "@prefix " ++ (name ++ (codes ": " ++ (full_iri iri ++ codes " .\n")))

abbrev pub prefix_line : Prefix → List ℕ
prefix_line prefix = namespace_line prefix.name prefix.iri

-- section 2.1
abbrev pub triple_line : List Prefix → Triple → List ℕ
triple_line prefixes triple =
    term_text prefixes triple.subject ++ (codes " " ++ (iri_text prefixes triple.predicate ++ (codes " " ++ (term_text prefixes triple.object ++ codes " .\n"))))

-- the lines of triples with these prefixes
abbrev pub lines_of : List Prefix → List Triple → List ℕ
lines_of prefixes triples = flat_map prefix_line prefixes ++ flat_map (triple_line prefixes) triples

-- the text of triples, in their order
abbrev pub turtle_text : List Prefix → List Triple → List ℕ
turtle_text prefixes triples = lines_of (written_prefixes prefixes) triples

-- a term alone, with IRIs in full
abbrev pub full_term : Term → List ℕ
full_term term = term_text [] term

-- a triple alone, with IRIs in full
abbrev pub full_triple : Triple → List ℕ
full_triple triple = full_term triple.subject ++ (codes " " ++ (full_iri triple.predicate ++ (codes " " ++ full_term triple.object)))
