-- What each triple of a graph is for: it makes a node what it is, names the ontology, is an annotation, or is an axiom.
use Rattle.std.specs.Prelude.{◌≡◌, ◌⊎◌, ℕ, true, false, List, Contains}
use Rattle.owl_kind.specs.declared.kind.Kind.{Kind}
use Rattle.owl_kind.specs.declared.kind.Kind.TheVariants as kind
use Rattle.owl_kind.specs.Kinds.{Entity}
use Rattle.rdf_graph.specs.declared.term.Term.{Term}
use Rattle.rdf_graph.specs.declared.term.Term.TheVariants.{Iri}
use Rattle.rdf_graph.specs.declared.triple.Triple.{Triple}
use Rattle.rdf_meaning.specs.declared.role.Role.TheVariants as role
use Rattle.rdf_meaning.specs.Denotation.{axiom_predicates, axiom_types}
use Rattle.rdf_meaning.specs.Kinds.{has_kind}
use Rattle.rdf_meaning.specs.declared.word.Word.{Word}
use Rattle.rdf_meaning.specs.declared.word.Word.TheVariants as word
use Rattle.rdf_meaning.specs.Nodes.{carries, carries_some, is_facet, is_iri, is_structural, role_of, type_iri}
use Rattle.rdf_meaning.specs.Words.{word_iri}
use Rattle.rdf_meaning.specs.Statements.{header_words, is_annotation_triple, is_axiom_predicate, is_header_triple}
use Rattle.rdf_mapping.specs.Frames.{IsOfNode, is_node_word}

-- The triple is no axiom: it belongs to a node, to the header, or to the annotations of one of these.
pub data IsAside (g : List Triple) (k : List Entity) (header : Term) (t : Triple) : Type 0 where
  of_node : is_structural g t ≡ true → IsAside g k header t
  of_header : is_header_triple header t ≡ true → IsAside g k header t
  of_annotations : is_annotation_triple g k header t ≡ true → IsAside g k header t

-- The triple can be nothing but an axiom: if it would make its subject what it is, the subject has no role; it does not name the
-- ontology; at the header its predicate is no annotation property, or tells which axiom it is; and its subject has no annotations.
pub record IsMain (g : List Triple) (k : List Entity) (header : Term) (t : Triple) : Type 0 where
  pub of_no_node : IsOfNode t → role_of g t.subject ≡ role.Individual
  pub of_no_header : t.subject ≡ header → carries_some header_words t ≡ false
  pub of_no_annotations : t.subject ≡ header → has_kind k kind.AnnotationProperty t.predicate ≡ true → is_axiom_predicate t.predicate ≡ true
  pub no_main_node : role_of g t.subject ≡ role.Main → ⊥
  pub no_note_node : role_of g t.subject ≡ role.Note → ⊥

-- the triples of a graph are these that are axioms, and others that are none
pub record AreSorted (g : List Triple) (k : List Entity) (header : Term) (mains : List Triple) : Type 0 where
  pub cases : (t : Triple) → Contains g t → Contains mains t ⊎ IsAside g k header t
  pub there : (t : Triple) → Contains mains t → Contains g t
  pub main : (t : Triple) → Contains mains t → IsMain g k header t

-- The predicate is neither rdf:type nor a word of the mapping, and of no facet.
pub record IsFree (p : List ℕ) : Type 0 where
  pub no_word : (w : Word) → p ≡ word_iri w → ⊥
  pub no_type : p ≡ type_iri → ⊥
  pub no_facet : is_facet p ≡ false

pub data IsProperty : Kind → Type 0 where
  annotation_property : IsProperty kind.AnnotationProperty
  object_property : IsProperty kind.ObjectProperty
  data_property : IsProperty kind.DataProperty

-- The triple says an axiom: by its type, as an assertion of a class, by its predicate, or as an assertion of a property. Where its type or
-- predicate could make a node what it is, the subject is an IRI, or an inverse of no name is the object.
pub data SaysAxiom (t : Triple) : Type 0 where
  by_type : (w : Word) → Contains axiom_types w → t.predicate ≡ type_iri → t.object ≡ Iri (word_iri w) →
      (is_node_word w ≡ true → is_iri t.subject ≡ true) → SaysAxiom t
  by_class : t.predicate ≡ type_iri → ((w : Word) → t.object ≡ Iri (word_iri w) → ⊥) → SaysAxiom t
  by_link : (w : Word) → Contains axiom_predicates w → t.predicate ≡ word_iri w →
      (is_node_word w ≡ true → (is_iri t.object ≡ false) ⊎ (is_iri t.subject ≡ true)) → SaysAxiom t
  by_free : IsFree t.predicate → SaysAxiom t

-- an annotation of the header, whose predicate is an annotation property
pub record IsHeaderNote (k : List Entity) (header : Term) (t : Triple) : Type 0 where
  pub subject : t.subject ≡ header
  pub free : IsFree t.predicate
  pub property : has_kind k kind.AnnotationProperty t.predicate ≡ true

-- the header alone is of type owl:Ontology
pub record HasHeader (g : List Triple) (header : Term) : Type 0 where
  pub triple : Triple
  pub inside : Contains g triple
  pub subject : triple.subject ≡ header
  pub typed : carries word.Ontology triple ≡ true
  pub only : (t : Triple) → Contains g t → carries word.Ontology t ≡ true → t.subject ≡ header
