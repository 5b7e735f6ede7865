-- What the terms of every graph are (RDF 1.1 Concepts and Abstract Syntax, sections 3.2 to 3.4).
use Rattle.std.specs.Prelude.{List}
use Rattle.std.specs.List.{AllByRecursion}
use Rattle.owl_characters.specs.Iri.{IsIri}
use Rattle.owl_characters.specs.Names.{IsLabel}
use Rattle.rdf_terms.specs.Literals.{IsLiteral}
use Rattle.rdf_graph.specs.declared.term.Term.{Term}
use Rattle.rdf_graph.specs.declared.term.Term.TheVariants.{Iri, Blank, Literal}
use Rattle.rdf_graph.specs.declared.triple.Triple.{Triple}

abbrev pub IsFormedTerm : Term → Type 0
IsFormedTerm (Iri iri) = IsIri iri
IsFormedTerm (Blank label) = IsLabel label
IsFormedTerm (Literal literal) = IsLiteral literal

pub record IsFormedTriple (triple : Triple) : Type 0 where
  pub subject : IsFormedTerm triple.subject
  pub predicate : IsIri triple.predicate
  pub object : IsFormedTerm triple.object

abbrev pub AreFormed : List Triple → Type 0
AreFormed triples = AllByRecursion IsFormedTriple triples
