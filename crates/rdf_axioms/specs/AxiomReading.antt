-- What it is that an axiom is read back from its triples (Mapping to RDF Graphs, sections 2.1 and 3.2).
use Rattle.std.specs.Prelude.{◌≡◌, ◌≤◌, ◌+◌, ℕ, suc, List, [], ◌∷◌, Contains}
use Rattle.std.specs.List.{AllByRecursion}
use Rattle.owl_doc.specs.Entities.{AreWellTyped, entities}
use Rattle.owl_kind.specs.Kinds.{Entity}
use Rattle.owl_tree.specs.declared.tag.Tag.{Tag}
use Rattle.owl_tree.specs.Canonical.{canonical}
use Rattle.owl_tree.specs.Equivalence.{IsEquivalent}
use Rattle.owl_tree.specs.Ontologies.{IsAxiom}
use Rattle.owl_tree.specs.Trees.{Tree, leaf, node, no_kids, kid, kids_of, tag_of}
use Rattle.rdf_graph.specs.declared.term.Term.TheVariants.{Blank}
use Rattle.rdf_graph.specs.declared.triple.Triple.{Triple}
use Rattle.rdf_meaning.specs.Denotation.{of_node, of_triple}
use Rattle.rdf_meaning.specs.Statements.{IsAxiomWith}
use Rattle.owl_doc.specs.Parts.{leaves}
use Rattle.rdf_sayable.specs.Sayable.{AreSayable}
use Rattle.rdf_normal.specs.Tidied.{IsPlain}
use Rattle.rdf_mapping.specs.Drawing.{Statement, linked, linked_back, looped, standing, unsaid, statement_of}
use Rattle.rdf_mapping.specs.Forms.{arc_nodes, blank, link, nodes, term_of}
use Rattle.rdf_mapping.specs.Frames.{IsForeign, IsOfNode, KeepsArcs}
use Rattle.rdf_mapping.specs.Graphs.{labels_in}
use Rattle.rdf_mapping.specs.GroupFrames.{IsSubject, KeepsLinked, KeepsLooped, StatesApart}
use Rattle.rdf_mapping.specs.Notes.{Notes}
use Rattle.rdf_mapping.specs.Sorts.{SaysAxiom}

-- An axiom that a graph can say, of a normal form: shaped, in canonical form, with nothing that the first steps would take apart or turn
-- round, well typed under these kinds, and with nothing to be said against its leaves.
pub record IsSayableAxiom (k : List Entity) (a : Tree) : Type 0 where
  pub is : IsAxiom a
  pub canonical : canonical a ≡ a
  pub plain : IsPlain a
  pub typed : AreWellTyped k (entities a)
  pub sayable : AreSayable (leaves a)

-- the labels in the tree are none of numbered nodes
abbrev pub AreForeignLabels : (ℕ → List ℕ) → ℕ → Tree → Type 0
AreForeignLabels name most a = (label : List ℕ) → Contains (labels_in a) label → IsForeign name most (Blank label)

-- the triple that a statement is, if it has no node of its own, with nodes by numbers from one on
abbrev pub main_of : (ℕ → List ℕ) → Statement → ℕ → List Triple
main_of name (linked f p q) n = link (term_of name f n) p (term_of name q (n + nodes f)) ∷ []
main_of name (linked_back f p q) n = link (term_of name q (n + nodes f)) p (term_of name f n) ∷ []
main_of name (looped p f) n = link (term_of name f n) p (term_of name f n) ∷ []
main_of name (standing arcs) n = []
main_of name unsaid n = []

-- The statement has a place in a graph, and is told from all else there: its subject is no other numbered node, and no literal, and its
-- triple says an axiom.
pub record IsWellDrawn (name : ℕ → List ℕ) (most : ℕ) (s : Statement) : Type 0 where
  pub said : s ≡ unsaid → ⊥
  pub apart : StatesApart name most s
  pub subject : (n : ℕ) → AllByRecursion (λ t. IsSubject t.subject) (main_of name s n)
  pub says : (n : ℕ) → AllByRecursion SaysAxiom (main_of name s n)

-- Where the graph keeps what the statement is from a number on, its triple or its node is an axiom of the tag, with these kids.
abbrev pub IsReadAt : (ℕ → List ℕ) → ℕ → List Triple → List Entity → Tag → List Tree → Statement → ℕ → Type 0
IsReadAt name most g k t kids (linked f p q) n =
    (sets : List Notes) → n + (nodes f + nodes q) ≤ most →
    KeepsLinked name g (link (term_of name f n) p (term_of name q (n + nodes f))) f q sets n →
    IsAxiomWith g k (of_triple (link (term_of name f n) p (term_of name q (n + nodes f)))) t kids
IsReadAt name most g k t kids (linked_back f p q) n =
    (sets : List Notes) → n + (nodes f + nodes q) ≤ most →
    KeepsLinked name g (link (term_of name q (n + nodes f)) p (term_of name f n)) f q sets n →
    IsAxiomWith g k (of_triple (link (term_of name q (n + nodes f)) p (term_of name f n))) t kids
IsReadAt name most g k t kids (looped p f) n =
    (sets : List Notes) → n + nodes f ≤ most → KeepsLooped name g (link (term_of name f n) p (term_of name f n)) f sets n →
    IsAxiomWith g k (of_triple (link (term_of name f n) p (term_of name f n))) t kids
IsReadAt name most g k t kids (standing arcs) n =
    n + suc (arc_nodes arcs) ≤ most → KeepsArcs name IsOfNode g arcs n → IsAxiomWith g k (of_node (blank name n)) t kids
IsReadAt name most g k t kids unsaid n = Unit {0}

-- the axiom with other annotations
abbrev pub with_notes : Tree → Tree → Tree
with_notes ns (leaf t a) = leaf t a
with_notes ns (node t no_kids) = node t no_kids
with_notes ns (node t (kid old ks)) = node t (kid ns ks)

-- The axiom is read back from a graph that keeps it: its tag, and kids that make an equivalent axiom whatever its annotations.
pub record IsReadBack (name : ℕ → List ℕ) (most : ℕ) (g : List Triple) (k : List Entity) (a : Tree) : Type 0 where
  pub kids : List Tree
  pub read : (n : ℕ) → IsReadAt name most g k (tag_of a) kids (statement_of a) n
  pub equivalent : (us vs : Tree) → IsEquivalent us vs → IsEquivalent (node (tag_of a) (kids_of (us ∷ kids))) (with_notes vs a)
