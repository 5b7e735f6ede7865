-- What a graph says: the ontology that its triples and nodes state together (Mapping to RDF Graphs, section 3).
use Rattle.std.specs.Prelude.{◌≡◌, ◌⊎◌, ℕ, Bool, true, false, not, ◌&&◌, ◌||◌, IsTrue, List, [], ◌∷◌, ◌++◌, Contains, length, map, Option, None, Some}
use Rattle.std.specs.List.{filter, list_any}
use Rattle.std.specs.Str.{bytes_eq}
use Rattle.owl_kind.specs.declared.kind.Kind.TheVariants as kind
use Rattle.owl_kind.specs.Kinds.{Entity, HasClash}
use Rattle.owl_tree.specs.declared.tag.Tag.{Tag}
use Rattle.owl_tree.specs.declared.tag.Tag.TheVariants as tag
use Rattle.owl_tree.specs.declared.row.Sort.TheVariants as sort
use Rattle.owl_tree.specs.Ontologies.{Head, HoldEquivalent, IsSameHead, Ontology}
use Rattle.owl_tree.specs.Trees.{Tree, node, kids_of}
use Rattle.rdf_graph.specs.declared.term.Term.{Term}
use Rattle.rdf_graph.specs.declared.term.Term.TheVariants.{Iri, Blank}
use Rattle.rdf_graph.specs.declared.triple.Triple.{Triple}
use Rattle.rdf_meaning.specs.declared.word.Word.{Word}
use Rattle.rdf_meaning.specs.declared.word.Word.TheVariants as word
use Rattle.rdf_meaning.specs.declared.role.Role.{Role}
use Rattle.rdf_meaning.specs.declared.role.Role.TheVariants as role
use Rattle.rdf_meaning.specs.Words.{word_iri}
use Rattle.rdf_meaning.specs.Kinds.{has_kind}
use Rattle.rdf_meaning.specs.Nodes.{carries, carries_some, chosen, is_mixed, is_role, is_same, is_structural, nil_iri, nodes_of, of_subject, role_of, subjects_of, type_iri}
use Rattle.rdf_meaning.specs.Rows.{Row, axiom_rows, node_rows}
use Rattle.rdf_meaning.specs.Denotation.{Bearer, of_node, of_triple, Fits, Holds, axiom_predicates, facets_of, simple}

-- the nodes that are an ontology
unfoldable pub headers : List Triple → List Term
headers g = filter (λ x. list_any (carries word.Ontology) (of_subject g x)) (subjects_of g)

-- what names the ontology, and what it imports (section 2.2)
abbrev pub header_words : List Word
header_words = word.Ontology ∷ word.VersionIri ∷ word.Imports ∷ []

unfoldable pub is_header_triple : Term → Triple → Bool
is_header_triple header t = is_same t.subject header && carries_some header_words t

-- the predicate is named by a row of an axiom
abbrev pub is_axiom_predicate : List ℕ → Bool
is_axiom_predicate p = bytes_eq p type_iri || list_any (λ w. bytes_eq p (word_iri w)) axiom_predicates

-- an annotation of the ontology, or of a reification or a node that stands for an axiom
unfoldable pub is_annotation_triple : List Triple → List Entity → Term → Triple → Bool
is_annotation_triple g k header t =
    (is_same t.subject header && not (carries_some header_words t) && has_kind k kind.AnnotationProperty t.predicate
    && not (is_axiom_predicate t.predicate))
    || ((is_role role.Main (role_of g t.subject) || is_role role.Note (role_of g t.subject)) && not (is_structural g t))

-- all other triples: those that are axioms
unfoldable pub main_triples : List Triple → List Entity → Term → List Triple
main_triples g k header = filter (λ t. not (is_structural g t || is_header_triple header t || is_annotation_triple g k header t)) g

unfoldable pub header_notes : List Triple → List Entity → Term → List Triple
header_notes g k header = filter (λ t. is_same t.subject header && is_annotation_triple g k header t) g

-- the annotations of a reification, or of a node that stands for an axiom
unfoldable pub notes_of : List Triple → Term → List Triple
notes_of g x = filter (λ t. not (is_structural g t)) (of_subject g x)

abbrev has_object : List Triple → Term → Word → Term → Bool
has_object g s w x = list_any (is_same x) (chosen g s w)

-- the node reifies the triple (section 2.3)
unfoldable pub reifies : List Triple → Term → Triple → Bool
reifies g s t =
    has_object g s word.AnnotatedSource t.subject && has_object g s word.AnnotatedProperty (Iri t.predicate)
    && has_object g s word.AnnotatedTarget t.object

abbrev has_some : {A : Type 0} → List A → Bool
has_some [] = false
has_some (a ∷ more) = true

-- the nodes by which a triple is annotated
unfoldable pub noters : List Triple → Triple → List Term
noters g t = filter (λ s. reifies g s t && has_some (notes_of g s)) (nodes_of g role.Note)

abbrev pub notes : List Tree → Tree
notes ts = node tag.Notes (kids_of ts)

-- one annotation with each set of annotations of its own
abbrev pub annotated : Tree → Tree → List Tree → List Tree
annotated p v sets = map (λ ns. node tag.Annotation (kids_of (ns ∷ p ∷ v ∷ []))) sets

-- The sets of annotations of a triple: one for each node that reifies it and has annotations; where there is no such node, the empty set.
mutual
  pub data Variants (g : List Triple) (k : List Entity) : Triple → List Tree → Type 0 where
    bare : (t : Triple) → noters g t ≡ [] → Variants g k t (notes [] ∷ [])
    noted : (t : Triple) (r : Term) (rs : List Term) (sets : List Tree) → noters g t ≡ r ∷ rs → AreSets g k (r ∷ rs) sets → Variants g k t sets

  -- the set of annotations of each node
  pub data AreSets (g : List Triple) (k : List Entity) : List Term → List Tree → Type 0 where
    no_set : AreSets g k [] []
    set : (r : Term) (rs : List Term) (ts sets : List Tree) → Annotates g k (notes_of g r) ts → AreSets g k rs sets →
        AreSets g k (r ∷ rs) (notes ts ∷ sets)

  -- the annotations that triples say
  pub data Annotates (g : List Triple) (k : List Entity) : List Triple → List Tree → Type 0 where
    no_note : Annotates g k [] []
    note : (t : Triple) (ts : List Triple) (p v : Tree) (sets us : List Tree) →
        simple g k sort.AnnotationProperty (Iri t.predicate) ≡ Some p → simple g k sort.AnnotationValue t.object ≡ Some v →
        Variants g k t sets → Annotates g k ts us → Annotates g k (t ∷ ts) (annotated p v sets ++ us)

-- the triple says an annotation
pub record HasNote (g : List Triple) (k : List Entity) (t : Triple) : Type 0 where
  pub property : Tree
  pub value : Tree
  pub is_property : simple g k sort.AnnotationProperty (Iri t.predicate) ≡ Some property
  pub is_value : simple g k sort.AnnotationValue t.object ≡ Some value
  pub sets : List Tree
  pub variants : Variants g k t sets

-- and it is this one, with one of the sets of its own annotations
pub record IsNoteOf (g : List Triple) (k : List Entity) (t : Triple) (a : Tree) : Type 0 where
  pub has : HasNote g k t
  pub annotations : Tree
  pub inside : Contains has.sets annotations
  pub whole : a ≡ node tag.Annotation (kids_of (annotations ∷ has.property ∷ has.value ∷ []))

-- some of these triples says the annotation
pub record IsNoteOfSome (g : List Triple) (k : List Entity) (ts : List Triple) (a : Tree) : Type 0 where
  pub triple : Triple
  pub inside : Contains ts triple
  pub note_of : IsNoteOf g k triple a

-- an axiom of the tag with each set of annotations
abbrev pub axioms_of : Tag → List Tree → List Tree → List Tree
axioms_of t ts sets = map (λ ns. node t (kids_of (ns ∷ ts))) sets

-- a row of this bearer, and what stands at its parts
pub record IsAxiomWith (g : List Triple) (k : List Entity) (b : Bearer) (t : Tag) (ts : List Tree) : Type 0 where
  pub row : Row
  pub among : Contains axiom_rows row
  pub tag : row.tag ≡ t
  pub fits : Fits g b row
  pub parts : Holds g k b row.parts ts

-- the triple is the axiom, with one of the sets of its annotations
pub record IsAxiomOf (g : List Triple) (k : List Entity) (t : Triple) (a : Tree) : Type 0 where
  pub tag : Tag
  pub kids : List Tree
  pub said : IsAxiomWith g k (of_triple t) tag kids
  pub sets : List Tree
  pub variants : Variants g k t sets
  pub annotations : Tree
  pub inside : Contains sets annotations
  pub whole : a ≡ node tag (kids_of (annotations ∷ kids))

-- the node stands for the axiom, with the annotations that it has
pub record IsAxiomOfNode (g : List Triple) (k : List Entity) (x : Term) (a : Tree) : Type 0 where
  pub tag : Tag
  pub kids : List Tree
  pub said : IsAxiomWith g k (of_node x) tag kids
  pub annotations : List Tree
  pub annotates : Annotates g k (notes_of g x) annotations
  pub whole : a ≡ node tag (kids_of (notes annotations ∷ kids))

-- the triple is an axiom, and its annotations say something
pub record HasAxiom (g : List Triple) (k : List Entity) (t : Triple) : Type 0 where
  pub tag : Tag
  pub kids : List Tree
  pub said : IsAxiomWith g k (of_triple t) tag kids
  pub sets : List Tree
  pub variants : Variants g k t sets

-- and so the node
pub record HasNodeAxiom (g : List Triple) (k : List Entity) (x : Term) : Type 0 where
  pub tag : Tag
  pub kids : List Tree
  pub said : IsAxiomWith g k (of_node x) tag kids
  pub annotations : List Tree
  pub annotates : Annotates g k (notes_of g x) annotations

-- some of these triples, or of these nodes, is the axiom
pub record IsOfSome (g : List Triple) (k : List Entity) (ts : List Triple) (a : Tree) : Type 0 where
  pub triple : Triple
  pub inside : Contains ts triple
  pub axiom_of : IsAxiomOf g k triple a

pub record IsOfSomeNode (g : List Triple) (k : List Entity) (xs : List Term) (a : Tree) : Type 0 where
  pub x : Term
  pub inside : Contains xs x
  pub axiom_of : IsAxiomOfNode g k x a

-- the axioms that triples are
pub data AreAxioms (g : List Triple) (k : List Entity) : List Triple → List Tree → Type 0 where
  no_triple : AreAxioms g k [] []
  triple : (t : Triple) (more : List Triple) (a : Tag) (ts sets us : List Tree) → IsAxiomWith g k (of_triple t) a ts →
      Variants g k t sets → AreAxioms g k more us → AreAxioms g k (t ∷ more) (axioms_of a ts sets ++ us)

-- the axioms that nodes stand for
pub data AreNodeAxioms (g : List Triple) (k : List Entity) : List Term → List Tree → Type 0 where
  no_node : AreNodeAxioms g k [] []
  an_axiom : (x : Term) (more : List Term) (a : Tag) (ts notes_in us : List Tree) → IsAxiomWith g k (of_node x) a ts →
      Annotates g k (notes_of g x) notes_in → AreNodeAxioms g k more us →
      AreNodeAxioms g k (x ∷ more) (axioms_of a ts (notes notes_in ∷ []) ++ us)

abbrev pub only : {A : Type 0} → List A → Option A → Type 0
only [] None = Unit {0}
only [] (Some a) = ⊥
only (a ∷ []) None = ⊥
only (a ∷ []) (Some b) = a ≡ b
only (a ∷ b ∷ more) o = ⊥

-- How the ontology is called, and what it imports: a version stands beside an IRI alone, and versions and imports are IRIs.
pub data IsHeadOf (g : List Triple) : Term → Head → Type 0 where
  unnamed : (label : List ℕ) (imports : List (List ℕ)) → chosen g (Blank label) word.VersionIri ≡ [] →
      chosen g (Blank label) word.Imports ≡ map Iri imports → IsHeadOf g (Blank label) (record { name = None; imports = imports })
  named : (iri : List ℕ) (version : Option (List ℕ)) (imports : List (List ℕ)) (versions : List (List ℕ)) →
      chosen g (Iri iri) word.VersionIri ≡ map Iri versions → only versions version → chosen g (Iri iri) word.Imports ≡ map Iri imports →
      IsHeadOf g (Iri iri) (record { name = Some (record { iri = iri; version = version }); imports = imports })

-- The graph states the ontology under these kinds: the head and the annotations are the header's, and each other triple that is an axiom,
-- and each node that stands for one, is an axiom with each set of its annotations.
pub record States (g : List Triple) (k : List Entity) (o : Ontology) : Type 0 where
  pub no_clash : (iri : List ℕ) → HasClash k iri → ⊥
  pub header : Term
  pub one_header : headers g ≡ header ∷ []
  pub said : Head
  pub is_head : IsHeadOf g header said
  pub notes_in : List Tree
  pub are_notes : Annotates g k (header_notes g k header) notes_in
  pub by_triples : List Tree
  pub are_axioms : AreAxioms g k (main_triples g k header) by_triples
  pub by_nodes : List Tree
  pub are_node_axioms : AreNodeAxioms g k (nodes_of g role.Main) by_nodes
  pub head : IsSameHead o.head said
  pub annotations : HoldEquivalent o.annotations notes_in
  pub axioms : HoldEquivalent o.axioms (by_triples ++ by_nodes)

-- A node is sound where its own triples are exactly those of a row: an individual and a header always, a cell with one first and one
-- rest, which is rdf:nil or a cell, a reification with one type, source, property and target.
pub record IsCell (g : List Triple) (x : Term) : Type 0 where
  pub first : Term
  pub rest : Term
  pub one_first : chosen g x word.First ≡ first ∷ []
  pub one_rest : chosen g x word.Rest ≡ rest ∷ []
  pub goes_on : (rest ≡ Iri nil_iri) ⊎ (role_of g rest ≡ role.List)

pub record IsReification (g : List Triple) (x : Term) : Type 0 where
  pub one_type : length (chosen g x word.Axiom ++ chosen g x word.Annotation) ≡ 1
  pub one_source : length (chosen g x word.AnnotatedSource) ≡ 1
  pub one_property : length (chosen g x word.AnnotatedProperty) ≡ 1
  pub one_target : length (chosen g x word.AnnotatedTarget) ≡ 1

pub record HasRow (g : List Triple) (rows : List Row) (x : Term) : Type 0 where
  pub row : Row
  pub among : Contains rows row
  pub fits : Fits g (of_node x) row

abbrev pub IsSoundAs : List Triple → Role → Term → Type 0
IsSoundAs g role.List x = IsCell g x
IsSoundAs g role.Property x = HasRow g node_rows x
IsSoundAs g role.Class x = HasRow g node_rows x
IsSoundAs g role.Range x = HasRow g node_rows x
IsSoundAs g role.Facet x = length (facets_of g x) ≡ 1
IsSoundAs g role.Main x = HasRow g axiom_rows x
IsSoundAs g role.Note x = IsReification g x
IsSoundAs g role.Header x = Unit {0}
IsSoundAs g role.Individual x = Unit {0}

-- the object of a structural triple of the node, which is no reification
pub record IsDirectlyBelow (g : List Triple) (y x : Term) : Type 0 where
  pub triple : Triple
  pub inside : Contains g triple
  pub subject : triple.subject ≡ x
  pub object : triple.object ≡ y
  pub structural : is_structural g triple ≡ true
  pub no_note : role_of g x ≡ role.Note → ⊥

-- the reification reifies an annotation triple of the other
pub record IsDirectlyNotedUnder (g : List Triple) (s r : Term) : Type 0 where
  pub note : role_of g s ≡ role.Note
  pub under : role_of g r ≡ role.Note
  pub triple : Triple
  pub annotation : Contains (notes_of g r) triple
  pub reified : IsTrue (reifies g s triple)

-- in one step or more
pub data InSteps (step : Term → Term → Type 0) : Term → Term → Type 0 where
  one_step : (y x : Term) → step y x → InSteps step y x
  one_more : (y z x : Term) → step y z → InSteps step z x → InSteps step y x

-- no way down from the term goes on without end
pub data IsGrounded (g : List Triple) : Term → Type 0 where
  grounded : (x : Term) → ((y : Term) → IsDirectlyBelow g y x → IsGrounded g y) → IsGrounded g x

-- the terms from which the axioms begin
pub data IsRoot (g : List Triple) (k : List Entity) (header : Term) : Term → Type 0 where
  is_subject : (t : Triple) → Contains (main_triples g k header) t → IsRoot g k header t.subject
  is_object : (t : Triple) → Contains (main_triples g k header) t → IsRoot g k header t.object

pub data IsReached (g : List Triple) (k : List Entity) (header : Term) : Term → Type 0 where
  at_root : (x : Term) → IsRoot g k header x → IsReached g k header x
  below_root : (y x : Term) → IsRoot g k header x → InSteps (IsDirectlyBelow g) y x → IsReached g k header y
  below_axiom : (y x : Term) → role_of g x ≡ role.Main → InSteps (IsDirectlyBelow g) y x → IsReached g k header y

abbrev pub IsPartOfAxiom : Role → Type 0
IsPartOfAxiom role.List = Unit {0}
IsPartOfAxiom role.Property = Unit {0}
IsPartOfAxiom role.Class = Unit {0}
IsPartOfAxiom role.Range = Unit {0}
IsPartOfAxiom role.Facet = Unit {0}
IsPartOfAxiom _ = ⊥

-- the reification reifies an axiom or an annotation of the graph
pub data ReifiesSome (g : List Triple) (k : List Entity) (header s : Term) : Type 0 where
  an_axiom : (t : Triple) → Contains (main_triples g k header) t → IsTrue (reifies g s t) → ReifiesSome g k header s
  an_annotation : (t : Triple) → Contains g t → IsTrue (is_annotation_triple g k header t) → IsTrue (reifies g s t) → ReifiesSome g k header s

-- Nothing of the graph is passed over: each node is one thing, and sound, and belongs to an axiom or an annotation.
pub record IsWhole (g : List Triple) (k : List Entity) (header : Term) : Type 0 where
  pub one_role : (label : List ℕ) → is_mixed g (Blank label) ≡ false
  pub sound : (label : List ℕ) → IsSoundAs g (role_of g (Blank label)) (Blank label)
  pub no_cycle : (x : Term) → InSteps (IsDirectlyBelow g) x x → ⊥
  pub no_cycle_of_notes : (s : Term) → InSteps (IsDirectlyNotedUnder g) s s → ⊥
  pub reifications : (s : Term) → Contains (nodes_of g role.Note) s → ReifiesSome g k header s
  pub reached : (label : List ℕ) → IsPartOfAxiom (role_of g (Blank label)) → IsReached g k header (Blank label)

-- What the graph says under these kinds.
pub record Says (g : List Triple) (k : List Entity) (o : Ontology) : Type 0 where
  pub states : States g k o
  pub whole : IsWhole g k states.header

-- nodes of the role have annotations of their own
abbrev pub is_noted : Role → Bool
is_noted r = is_role role.Main r || is_role role.Note r

-- A tree of an annotation that the graph says, or of the set of those of a reification or of a node that stands for an axiom.
pub data IsNotedTree (g : List Triple) (k : List Entity) (header : Term) : Tree → Type 0 where
  note_tree : (u : Triple) (t : Tree) → Contains g u → IsTrue (is_annotation_triple g k header u) → IsNoteOf g k u t →
      IsNotedTree g k header t
  a_set : (x : Term) (ts : List Tree) → IsTrue (is_noted (role_of g x)) → Annotates g k (notes_of g x) ts →
      IsNotedTree g k header (notes ts)
