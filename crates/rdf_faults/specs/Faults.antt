-- What is wrong with a graph that says no ontology (Mapping to RDF Graphs, section 3).
use Rattle.std.specs.Prelude.{◌≡◌, ◌⊎◌, ◌||◌, ℕ, Bool, false, IsTrue, List, [], ◌∷◌, Contains, Option, None, Some}
use Rattle.rdf_terms.specs.Vocabulary.{is_reserved}
use Rattle.owl_kind.specs.declared.kind.Kind.{Kind}
use Rattle.owl_kind.specs.declared.kind.Kind.TheVariants as kind
use Rattle.owl_kind.specs.Kinds.{Entity}
use Rattle.owl_tree.specs.Ontologies.{Head}
use Rattle.rdf_graph.specs.declared.term.Term.{Term}
use Rattle.rdf_graph.specs.declared.term.Term.TheVariants.{Iri, Blank}
use Rattle.rdf_graph.specs.declared.triple.Triple.{Triple}
use Rattle.rdf_meaning.specs.declared.role.Role.TheVariants as role
use Rattle.rdf_meaning.specs.declared.row.Site.TheVariants.{TypedBy, OtherType, OtherLink}
use Rattle.rdf_meaning.specs.declared.word.Word.{Word}
use Rattle.rdf_meaning.specs.declared.word.Word.TheVariants as word
use Rattle.rdf_meaning.specs.Kinds.{has_kind, may_be_declared}
use Rattle.rdf_meaning.specs.Nodes.{is_mixed, is_structural, role_of}
use Rattle.rdf_meaning.specs.Denotation.{site_of}
use Rattle.rdf_meaning.specs.Statements.{InSteps, IsDirectlyBelow, IsDirectlyNotedUnder, IsHeadOf, IsPartOfAxiom, IsReached, ReifiesSome, headers, is_annotation_triple, main_triples}
use Rattle.rdf_faults.specs.Formed.{IsFormedAs}
use Rattle.rdf_faults.specs.Asked.{IsTyped, IsTypedAxiom, IsTypedNote}

-- the one header has two versions, a version beside no IRI, or a version or an import that is no IRI
pub record IsBadHeader (g : List Triple) (x : Term) : Type 0 where
  pub one_header : headers g ≡ x ∷ []
  pub no_head : (head : Head) → IsHeadOf g x head → ⊥

-- the node has the marks of two roles
abbrev pub IsMixed : List Triple → List ℕ → Type 0
IsMixed g label = IsTrue (is_mixed g (Blank label))

-- a cell of a list without exactly one first and one rest, or whose rest is neither rdf:nil nor a cell
pub record IsBadCell (g : List Triple) (label : List ℕ) : Type 0 where
  pub cell : role_of g (Blank label) ≡ role.List
  pub not_formed : IsFormedAs g (role_of g (Blank label)) (Blank label) → ⊥

-- the node is below itself, or noted under itself
abbrev pub IsCyclic : List Triple → List ℕ → Type 0
IsCyclic g label = InSteps (IsDirectlyBelow g) (Blank label) (Blank label) ⊎ InSteps (IsDirectlyNotedUnder g) (Blank label) (Blank label)

-- a node, but for the cells of lists, whose own triples are those of no row, or have not the form that a row asks for
pub record IsBadNode (g : List Triple) (label : List ℕ) : Type 0 where
  pub no_cell : role_of g (Blank label) ≡ role.List → ⊥
  pub not_formed : IsFormedAs g (role_of g (Blank label)) (Blank label) → ⊥

-- a reification of no axiom and no annotation of the graph
pub record IsOfNothing (g : List Triple) (k : List Entity) (header : Term) (label : List ℕ) : Type 0 where
  pub note : role_of g (Blank label) ≡ role.Note
  pub nothing : ReifiesSome g k header (Blank label) → ⊥

-- what a triple of rdf:type with this class declares
abbrev pub kind_declared : Word → Option Kind
kind_declared word.Class = Some kind.Class
kind_declared word.Datatype = Some kind.Datatype
kind_declared word.ObjectProperty = Some kind.ObjectProperty
kind_declared word.DatatypeProperty = Some kind.DataProperty
kind_declared word.AnnotationProperty = Some kind.AnnotationProperty
kind_declared word.NamedIndividual = Some kind.Individual
kind_declared _ = None

abbrev pub is_property : List Entity → List ℕ → Bool
is_property k iri = has_kind k kind.ObjectProperty iri || has_kind k kind.DataProperty iri || has_kind k kind.AnnotationProperty iri

-- A triple takes a reserved IRI for what it isn't: for a property or a class that it is not, or by declaring it (Structural Specification,
-- sections 2.4 and 5).
pub data TakesReserved (k : List Entity) (t : Triple) : Type 0 where
  as_property : site_of t ≡ OtherLink → IsTrue (is_reserved t.predicate) → is_property k t.predicate ≡ false → TakesReserved k t
  as_class : (iri : List ℕ) → site_of t ≡ OtherType → t.object ≡ Iri iri → IsTrue (is_reserved iri) →
      has_kind k kind.Class iri ≡ false → TakesReserved k t
  as_declared : (w : Word) (declared : Kind) (iri : List ℕ) → site_of t ≡ TypedBy w → kind_declared w ≡ Some declared →
      t.subject ≡ Iri iri → may_be_declared declared iri ≡ false → TakesReserved k t

-- a triple that is no axiom for that
pub record IsReservedTriple (g : List Triple) (k : List Entity) (header : Term) (t : Triple) : Type 0 where
  pub main : Contains (main_triples g k header) t
  pub takes : TakesReserved k t

-- a node that would be a part of an axiom, and is of none
pub record IsOrphan (g : List Triple) (k : List Entity) (header : Term) (label : List ℕ) : Type 0 where
  pub part : IsPartOfAxiom (role_of g (Blank label))
  pub unreached : IsReached g k header (Blank label) → ⊥

-- a triple of a node that names what it may not
pub record IsUntypedPart (g : List Triple) (k : List Entity) (t : Triple) : Type 0 where
  pub inside : Contains g t
  pub structural : IsTrue (is_structural g t)
  pub untyped : IsTyped g k t → ⊥

-- A triple that is no part of a node, and is not the axiom or the annotation that it would be.
pub data IsUntypedStatement (g : List Triple) (k : List Entity) (header : Term) (t : Triple) : Type 0 where
  no_axiom : Contains (main_triples g k header) t → (IsTypedAxiom g k t → ⊥) → IsUntypedStatement g k header t
  no_note : Contains g t → IsTrue (is_annotation_triple g k header t) → (IsTypedNote g k t → ⊥) → IsUntypedStatement g k header t
