-- Terms and triples (RDF 1.1 Concepts and Abstract Syntax, section 3.1).
use Rattle.std.specs.Prelude.{List}
use Rattle.std.specs.List.{AllByRecursion}
use Rattle.std.specs.Ordering.{on, then_cmp}
use Rattle.std.specs.declared.cmp.Ordering.{Ordering}
use Rattle.std.specs.declared.cmp.Ordering.TheVariants.{Less, Greater}
use Rattle.owl_characters.specs.Order.{text_cmp}
use Rattle.rdf_terms.specs.Literals.{literal_cmp}
use Rattle.rdf_graph.specs.declared.term.Term.{Term}
use Rattle.rdf_graph.specs.declared.term.Term.TheVariants.{Iri, Blank, Literal}
use Rattle.rdf_graph.specs.declared.triple.Triple.{Triple}

-- a subject is an IRI or a blank node
abbrev pub IsSubject : Term → Type 0
IsSubject (Iri iri) = Unit {0}
IsSubject (Blank label) = Unit {0}
IsSubject (Literal literal) = ⊥

-- each triple has one
abbrev pub HaveSubjects : List Triple → Type 0
HaveSubjects = AllByRecursion (λ triple. IsSubject triple.subject)

-- IRIs, then blank nodes, then literals, each by their own order
abbrev pub term_cmp : Term → Term → Ordering
term_cmp (Iri a) (Iri b) = text_cmp a b
term_cmp (Iri a) (Blank b) = Less
term_cmp (Iri a) (Literal b) = Less
term_cmp (Blank a) (Iri b) = Greater
term_cmp (Blank a) (Blank b) = text_cmp a b
term_cmp (Blank a) (Literal b) = Less
term_cmp (Literal a) (Iri b) = Greater
term_cmp (Literal a) (Blank b) = Greater
term_cmp (Literal a) (Literal b) = literal_cmp a b

-- by subject, predicate and object
abbrev pub triple_cmp : Triple → Triple → Ordering
triple_cmp = then_cmp (on (λ t. t.subject) term_cmp) (then_cmp (on (λ t. t.predicate) text_cmp) (on (λ t. t.object) term_cmp))
