-- What a graph is that holds what is drawn of an ontology, and how its axioms are read back.
use Rattle.std.specs.Prelude.{◌≡◌, ◌↔◌, ℕ, suc, List, ◌++◌, Contains}
use Rattle.owl_kind.specs.Kinds.{Entity}
use Rattle.owl_list.specs.Ascending.{AreApart}
use Rattle.owl_tree.specs.Ontologies.{Ontology}
use Rattle.owl_tree.specs.Trees.{Tree, tag_of}
use Rattle.rdf_graph.specs.declared.term.Term.TheVariants.{Blank}
use Rattle.rdf_graph.specs.declared.triple.Triple.{Triple}
use Rattle.rdf_meaning.specs.declared.role.Role.TheVariants as role
use Rattle.rdf_meaning.specs.Denotation.{of_node, of_triple}
use Rattle.rdf_meaning.specs.Nodes.{role_of}
use Rattle.rdf_meaning.specs.Statements.{IsAxiomWith}
use Rattle.rdf_mapping.specs.Drawing.{statement_of}
use Rattle.rdf_mapping.specs.Frames.{AreNamedApart, IsAny, IsForeign, IsOwn, own_triples}
use Rattle.rdf_mapping.specs.GraphEntries.{made_nodes}
use Rattle.rdf_mapping.specs.Graphs.{bare, groups_of, labels_of, made_triples, sets_of}
use Rattle.rdf_mapping.specs.GroupFrames.{EachGroupKept}
use Rattle.rdf_mapping.specs.Entries.{note_links}
use Rattle.rdf_axioms.specs.AxiomReading.{IsReadBack, IsWellDrawn, main_of}
use Rattle.rdf_states.specs.Places.{Stand, first_number, stand_node, stands_of}

-- The graph holds what is drawn of the ontology, each triple once, with nodes that have names of their own.
pub record IsDrawnBy (name : ℕ → List ℕ) (g : List Triple) (o : Ontology) : Type 0 where
  pub differ : AreNamedApart name (made_nodes o)
  pub apart : AreApart g
  pub holds : (t : Triple) → Contains g t ↔ Contains (made_triples name o) t
  pub fresh : (label : List ℕ) → Contains (labels_of o) label → IsForeign name (made_nodes o) (Blank label)

-- and keeps each of the groups of axioms
pub record IsGraphOf (name : ℕ → List ℕ) (g : List Triple) (o : Ontology) : Type 0 where
  pub differ : AreNamedApart name (made_nodes o)
  pub apart : AreApart g
  pub holds : (t : Triple) → Contains g t ↔ Contains (made_triples name o) t
  pub fresh : (label : List ℕ) → Contains (labels_of o) label → IsForeign name (made_nodes o) (Blank label)
  pub kept : EachGroupKept name g (groups_of o.axioms) (first_number o)

-- each axiom has a place in a graph, and is told from all else there
abbrev pub AreWellDrawn : (ℕ → List ℕ) → Ontology → Type 0
AreWellDrawn name o = (a : Tree) → Contains o.axioms a → IsWellDrawn name (made_nodes o) (statement_of a)

-- and is read back from this one
abbrev pub AreReadBack : (ℕ → List ℕ) → List Triple → List Entity → Ontology → Type 0
AreReadBack name g k o = (a : Tree) → Contains o.axioms a → IsReadBack name (made_nodes o) g k a

-- the labels of the ontology are those of nodes that are nothing but individuals
abbrev pub LabelsAreSingle : List Triple → Ontology → Type 0
LabelsAreSingle g o = (label : List ℕ) → Contains (labels_of o) label → role_of g (Blank label) ≡ role.Individual

-- What stands at the place of an axiom without annotations.
pub record IsReadAtPlace (name : ℕ → List ℕ) (g : List Triple) (k : List Entity) (o : Ontology) (b : Tree) (m : ℕ) : Type 0 where
  pub tree : Tree
  pub inside : Contains o.axioms tree
  pub is : bare tree ≡ b
  pub read : IsReadBack name (made_nodes o) g k tree
  pub there : (t : Triple) → Contains (main_of name (statement_of b) m) t → Contains g t
  pub main : (t : Triple) → Contains (main_of name (statement_of b) m) t → IsAxiomWith g k (of_triple t) (tag_of tree) read.kids
  pub stand : (e : Stand) → Contains (stands_of (statement_of b) (sets_of b o.axioms) m) e → IsAxiomWith g k (of_node (stand_node name e)) (tag_of tree) read.kids
  pub own : (e : Stand) → Contains (stands_of (statement_of b) (sets_of b o.axioms) m) e →
      IsOwn IsAny g (stand_node name e) (own_triples name (stand_node name e) e.arcs (suc e.number) ++ note_links (stand_node name e) e.notes)
