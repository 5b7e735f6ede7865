-- What the definitions say of some texts, worked out by hand.
use lib.Utf8.{encode}
use Rattle.std.specs.Prelude.{◌≡◌, true, false, List, [], ◌∷◌, codes}
use Rattle.std.proofs.Common.{refl}
use Rattle.owl_atom.specs.declared.prefixes.Prefix.{Prefix}
use Rattle.rdf_terms.specs.Literals.{of_datatype, string, with_tag}
use Rattle.rdf_terms.specs.Vocabulary.{rdf, rdfs, xsd}
use Rattle.rdf_graph.specs.declared.term.Term.TheVariants.{Iri, Blank, Literal}
use Rattle.rdf_graph.specs.declared.triple.Triple.{Triple}
use Rattle.ttl_write.specs.Text.{string_text, turtle_text}

-- no prefixes of its own, and no triples
four_lines : turtle_text [] []
    ≡ codes "@prefix owl: <http://www.w3.org/2002/07/owl#> .\n@prefix rdf: <http://www.w3.org/1999/02/22-rdf-syntax-ns#> .\n@prefix rdfs: <http://www.w3.org/2000/01/rdf-schema#> .\n@prefix xsd: <http://www.w3.org/2001/XMLSchema#> .\n"
unfolding encode
four_lines = refl

-- quotes, backslashes and the ends of lines
escapes : string_text (codes "a\"b\\c\nd\re\tf") ≡ codes "\"a\\\"b\\\\c\\nd\\re\tf\""
escapes = refl

abbrev own_prefixes : List Prefix
own_prefixes =
    record { name = []; iri = codes "e:"; fixed = false; declared = true }
    ∷ record { name = codes "rdf"; iri = codes "e:rdf"; fixed = true; declared = true } ∷ []

-- IRIs of which one is no name, a blank node, and literals of each kind
abbrev triples : List Triple
triples =
    record { subject = Iri (codes "e:A"); predicate = rdf (codes "type"); object = Iri (codes "e:9") }
    ∷ record { subject = Iri (codes "e:A"); predicate = rdfs (codes "label"); object = Literal (of_datatype (codes "a\nb") string) }
    ∷ record { subject = Iri (codes "e:A"); predicate = rdfs (codes "label"); object = Literal (with_tag (codes "a") (codes "en")) }
    ∷ record { subject = Blank (codes "x"); predicate = codes "f:p"; object = Literal (of_datatype (codes "1") (xsd (codes "integer"))) } ∷ []

some_lines : turtle_text own_prefixes triples
    ≡ codes "@prefix : <e:> .\n@prefix owl: <http://www.w3.org/2002/07/owl#> .\n@prefix rdf: <http://www.w3.org/1999/02/22-rdf-syntax-ns#> .\n@prefix rdfs: <http://www.w3.org/2000/01/rdf-schema#> .\n@prefix xsd: <http://www.w3.org/2001/XMLSchema#> .\n:A rdf:type <e:9> .\n:A rdfs:label \"a\\nb\" .\n:A rdfs:label \"a\"@en .\n_:x <f:p> \"1\"^^xsd:integer .\n"
unfolding encode
some_lines = refl
