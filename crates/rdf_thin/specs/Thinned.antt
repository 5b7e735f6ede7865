-- Redundant triples: types that tools of OWL 1 write beside what OWL 2 does without. Passing them over is this program's own, in the sense of
-- the Mapping to RDF Graphs, section 3.
use Rattle.std.specs.Prelude.{ℕ, Bool, not, ◌&&◌, if◌then◌else◌, List, [], ◌∷◌, codes}
use Rattle.std.specs.List.{filter, list_any}
use Rattle.std.specs.Str.{bytes_eq}
use Rattle.rdf_terms.specs.Vocabulary.{rdf, rdfs}
use Rattle.rdf_graph.specs.declared.term.Term.{Term}
use Rattle.rdf_graph.specs.declared.term.Term.TheVariants.{Iri, Blank, Literal}
use Rattle.rdf_graph.specs.declared.triple.Triple.{Triple}
use Rattle.rdf_meaning.specs.declared.word.Word.{Word}
use Rattle.rdf_meaning.specs.declared.word.Word.TheVariants as word
use Rattle.rdf_meaning.specs.Nodes.{carries_some, is_blank, of_subject, type_iri}
use Rattle.rdf_meaning.specs.Words.{word_iri}

-- A type is redundant beside a triple of the same subject with one of these words: of a blank node that has an element, a restriction's
-- class, or an inverse's property; and of any term an older name of what it is.
unfoldable pub words_beside : Bool → List ℕ → List Word
words_beside blank class =
    if blank && bytes_eq class (rdf (codes "List")) then word.First ∷ []
    else (if bytes_eq class (rdfs (codes "Class")) then word.Class ∷ word.Datatype ∷ word.Restriction ∷ []
    else (if bytes_eq class (rdf (codes "Property")) then word.ObjectProperty ∷ word.DatatypeProperty ∷ word.AnnotationProperty ∷ []
    else (if blank && bytes_eq class (word_iri word.Class) then word.Restriction ∷ []
    else (if blank && bytes_eq class (word_iri word.ObjectProperty) then word.InverseOf ∷ [] else []))))

abbrev pub words_beside_type : Term → Term → List Word
words_beside_type x (Iri class) = words_beside (is_blank x) class
words_beside_type x (Blank label) = []
words_beside_type x (Literal literal) = []

-- The triple is a type that is redundant in the graph.
unfoldable pub is_redundant : List Triple → Triple → Bool
is_redundant g t =
    bytes_eq t.predicate type_iri && list_any (carries_some (words_beside_type t.subject t.object)) (of_subject g t.subject)

-- The graph without these triples, each tested in the whole graph.
unfoldable pub thinned : List Triple → List Triple
thinned g = filter (λ t. not (is_redundant g t)) g
