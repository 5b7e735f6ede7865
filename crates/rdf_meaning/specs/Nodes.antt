-- What the triples of a graph make of its blank nodes, and what each triple is for (Mapping to RDF Graphs, section 3).
use Rattle.std.specs.Prelude.{◌≡◌, ℕ, Bool, true, false, not, ◌&&◌, ◌||◌, cond, nat_eq, nat_le, List, [], ◌∷◌, Contains, length, map, codes}
use Rattle.std.specs.List.{filter, list_any, starts_with}
use Rattle.std.specs.Str.{bytes_eq}
use Rattle.std.specs.Ordering.{eq_by_cmp}
use Rattle.owl_list.specs.Ascending.{ascending}
use Rattle.rdf_terms.specs.Vocabulary.{rdf, xsd}
use Rattle.rdf_graph.specs.declared.term.Term.{Term}
use Rattle.rdf_graph.specs.declared.term.Term.TheVariants.{Iri, Blank, Literal}
use Rattle.rdf_graph.specs.declared.triple.Triple.{Triple}
use Rattle.rdf_graph.specs.Terms.{term_cmp}
use Rattle.rdf_meaning.specs.declared.word.Word.{Word}
use Rattle.rdf_meaning.specs.declared.word.Word.TheVariants as word
use Rattle.rdf_meaning.specs.declared.role.Role.{Role}
use Rattle.rdf_meaning.specs.declared.role.Role.TheVariants as role
use Rattle.rdf_meaning.specs.Words.{is_type, word_iri, word_number}

abbrev pub type_iri : List ℕ
type_iri = rdf (codes "type")

abbrev pub nil_iri : List ℕ
nil_iri = rdf (codes "nil")

abbrev pub is_same : Term → Term → Bool
is_same = eq_by_cmp term_cmp

abbrev pub is_word : Word → Word → Bool
is_word a b = nat_eq (word_number a) (word_number b)

abbrev pub is_iri : Term → Bool
is_iri (Iri iri) = true
is_iri (Blank label) = false
is_iri (Literal literal) = false

abbrev pub is_blank : Term → Bool
is_blank (Iri iri) = false
is_blank (Blank label) = true
is_blank (Literal literal) = false

-- the triple says that its subject has the type
abbrev pub says_type : List ℕ → Triple → Bool
says_type iri t = bytes_eq t.predicate type_iri && is_same t.object (Iri iri)

-- The triple has the word: rdf:type and the class, or the predicate. An inverse of an object property is that of one with a name.
unfoldable pub carries : Word → Triple → Bool
carries w t =
    cond (is_type w) (says_type (word_iri w) t)
    (bytes_eq t.predicate (word_iri w) && (not (is_word w word.InverseOf) || is_iri t.object))

abbrev pub carries_some : List Word → Triple → Bool
carries_some words t = list_any (λ w. carries w t) words

-- the triples of a node
abbrev pub of_subject : List Triple → Term → List Triple
of_subject g x = filter (λ t. is_same t.subject x) g

-- the objects of a node's triples with the word
unfoldable pub chosen : List Triple → Term → Word → List Term
chosen g x w = map (λ t. t.object) (filter (carries w) (of_subject g x))

-- the object of a triple of the node with the word
pub record IsChosenBy (g : List Triple) (x : Term) (w : Word) (y : Term) : Type 0 where
  pub triple : Triple
  pub inside : Contains g triple
  pub subject : triple.subject ≡ x
  pub object : triple.object ≡ y
  pub carries : carries w triple ≡ true

-- a predicate of facets: one of XML Schema, or rdf:langRange
unfoldable pub is_facet : List ℕ → Bool
is_facet iri = starts_with nat_eq iri (xsd []) || bytes_eq iri (rdf (codes "langRange"))

-- a node with such a triple has the role
unfoldable pub marks_role : Role → Triple → Bool
marks_role role.List t = carries_some (word.First ∷ word.Rest ∷ []) t
marks_role role.Property t = carries word.InverseOf t
marks_role role.Class t = carries_some (word.Class ∷ word.Restriction ∷ []) t
marks_role role.Range t = carries word.Datatype t
marks_role role.Facet t = is_facet t.predicate
marks_role role.Main t =
    carries_some (word.AllDisjointClasses ∷ word.AllDisjointProperties ∷ word.AllDifferent ∷ word.NegativePropertyAssertion ∷ []) t
marks_role role.Note t = carries_some (word.Axiom ∷ word.Annotation ∷ []) t
marks_role role.Header t = carries word.Ontology t
marks_role role.Individual t = false

abbrev pub marked_roles : List Role
marked_roles = role.List ∷ role.Property ∷ role.Class ∷ role.Range ∷ role.Facet ∷ role.Main ∷ role.Note ∷ role.Header ∷ []

-- the roles of which the node has a mark
unfoldable pub roles_of : List Triple → Term → List Role
roles_of g x = filter (λ r. list_any (marks_role r) (of_subject g x)) marked_roles

abbrev pub first_role : List Role → Role
first_role [] = role.Individual
first_role (r ∷ rs) = r

-- What a blank node is by its own triples. A node with the marks of two roles is of no graph that says an ontology.
abbrev pub role_of : List Triple → Term → Role
role_of g (Iri iri) = role.Individual
role_of g (Blank label) = first_role (roles_of g (Blank label))
role_of g (Literal literal) = role.Individual

abbrev pub is_mixed : List Triple → Term → Bool
is_mixed g x = nat_le 2 (length (roles_of g x))

abbrev pub is_role : Role → Role → Bool
is_role role.List role.List = true
is_role role.Property role.Property = true
is_role role.Class role.Class = true
is_role role.Range role.Range = true
is_role role.Facet role.Facet = true
is_role role.Main role.Main = true
is_role role.Note role.Note = true
is_role role.Header role.Header = true
is_role role.Individual role.Individual = true
is_role _ _ = false

-- the words of a role's own triples
unfoldable pub words_of : Role → List Word
words_of role.List = word.First ∷ word.Rest ∷ []
words_of role.Property = word.InverseOf ∷ []
words_of role.Class =
    word.Class ∷ word.Restriction ∷ word.IntersectionOf ∷ word.UnionOf ∷ word.ComplementOf ∷ word.OneOf ∷ word.OnProperty ∷
    word.OnProperties ∷ word.SomeValuesFrom ∷ word.AllValuesFrom ∷ word.HasValue ∷ word.HasSelf ∷ word.MinCardinality ∷
    word.MaxCardinality ∷ word.Cardinality ∷ word.MinQualifiedCardinality ∷ word.MaxQualifiedCardinality ∷
    word.QualifiedCardinality ∷ word.OnClass ∷ word.OnDataRange ∷ []
words_of role.Range =
    word.Datatype ∷ word.IntersectionOf ∷ word.UnionOf ∷ word.DatatypeComplementOf ∷ word.OneOf ∷ word.OnDatatype ∷
    word.WithRestrictions ∷ []
words_of role.Facet = []
words_of role.Main =
    word.AllDisjointClasses ∷ word.AllDisjointProperties ∷ word.AllDifferent ∷ word.NegativePropertyAssertion ∷ word.Members ∷
    word.DistinctMembers ∷ word.SourceIndividual ∷ word.AssertionProperty ∷ word.TargetIndividual ∷ word.TargetValue ∷ []
words_of role.Note =
    word.Axiom ∷ word.Annotation ∷ word.AnnotatedSource ∷ word.AnnotatedProperty ∷ word.AnnotatedTarget ∷ []
words_of role.Header = []
words_of role.Individual = []

-- a triple that makes its subject, a node of the role, what it is
abbrev pub is_own : Role → Triple → Bool
is_own role.Facet t = is_facet t.predicate
is_own r t = carries_some (words_of r) t

-- a triple that makes a node what it is
unfoldable pub is_structural : List Triple → Triple → Bool
is_structural g t = is_own (role_of g t.subject) t

-- the blank nodes of the graph that have the role, each once, in ascending order
abbrev pub subjects_of : List Triple → List Term
subjects_of g = ascending term_cmp (map (λ t. t.subject) g)

unfoldable pub nodes_of : List Triple → Role → List Term
nodes_of g r = filter (λ x. is_blank x && is_role r (role_of g x)) (subjects_of g)
