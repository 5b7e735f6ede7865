-- What the definitions say of some terms and triples, worked out by hand.
use lib.Utf8.{encode}
use Rattle.std.specs.Prelude.{◌≡◌, ℕ, List, [], ◌∷◌, None, Some, codes, refl}
use Rattle.std.specs.declared.cmp.Ordering.TheVariants.{Less}
use Rattle.rdf_terms.specs.Literals.{LiteralParts, of_datatype, string}
use Rattle.rdf_graph.specs.declared.term.Term.TheVariants.{Iri, Blank, Literal}
use Rattle.rdf_graph.specs.declared.triple.Triple.{Triple}
use Rattle.rdf_graph.specs.Graphs.{object_at, set_of, subject_at}
use Rattle.rdf_graph.specs.Terms.{term_cmp, triple_cmp}

-- an IRI comes before a blank node, and this before a literal, whatever they hold

iri_before_blank_node : (iri label : List ℕ) → term_cmp (Iri iri) (Blank label) ≡ Less
iri_before_blank_node iri label = refl

blank_node_before_literal : (label : List ℕ) (literal : LiteralParts) → term_cmp (Blank label) (Literal literal) ≡ Less
blank_node_before_literal label literal = refl

iri_before_literal : (iri : List ℕ) (literal : LiteralParts) → term_cmp (Iri iri) (Literal literal) ≡ Less
iri_before_literal iri literal = refl

-- terms of one kind by their bytes

iris_by_bytes : term_cmp (Iri (codes "e:B")) (Iri (codes "e:a")) ≡ Less
unfolding encode
iris_by_bytes = refl

front_before_whole : term_cmp (Blank (codes "a")) (Blank (codes "a0")) ≡ Less
unfolding encode
front_before_whole = refl

-- <e:a> <e:p> "x", <e:a> <e:q> <e:b> and <e:b> <e:p> <e:a>

abbrev says : Triple
says = record { subject = Iri (codes "e:a"); predicate = codes "e:p"; object = Literal (of_datatype (codes "x") string) }

abbrev leads : Triple
leads = record { subject = Iri (codes "e:a"); predicate = codes "e:q"; object = Iri (codes "e:b") }

abbrev returns : Triple
returns = record { subject = Iri (codes "e:b"); predicate = codes "e:p"; object = Iri (codes "e:a") }

-- the predicate decides before the object, and the subject before both

predicate_first : triple_cmp says leads ≡ Less
unfolding encode
predicate_first = refl

subject_first : triple_cmp leads returns ≡ Less
unfolding encode
subject_first = refl

-- in whatever order they come, and each once

in_order : set_of (returns ∷ says ∷ leads ∷ says ∷ []) ≡ says ∷ leads ∷ returns ∷ []
unfolding encode
in_order = refl

twice_is_once : set_of (says ∷ says ∷ []) ≡ says ∷ []
unfolding encode
twice_is_once = refl

second_object : object_at (says ∷ leads ∷ []) 1 ≡ Some (Iri (codes "e:b"))
second_object = refl

no_third_subject : subject_at (says ∷ leads ∷ []) 2 ≡ None
no_third_subject = refl
