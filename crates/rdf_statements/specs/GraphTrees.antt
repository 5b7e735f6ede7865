-- The trees that a graph says, and which of them are too large (Mapping to RDF Graphs, section 3).
use Rattle.std.specs.Prelude.{◌≡◌, ◌⊎◌, ℕ, List, ◌++◌, Contains}
use Rattle.owl_kind.specs.Kinds.{Entity}
use Rattle.owl_tree.specs.declared.tag.Tag.{Tag}
use Rattle.owl_tree.specs.Trees.{Tree, node, kids_of}
use Rattle.rdf_graph.specs.declared.term.Term.{Term}
use Rattle.rdf_graph.specs.declared.term.Term.TheVariants.{Blank}
use Rattle.rdf_graph.specs.declared.triple.Triple.{Triple}
use Rattle.rdf_meaning.specs.declared.role.Role.TheVariants as role
use Rattle.rdf_meaning.specs.Nodes.{nodes_of, role_of}
use Rattle.rdf_meaning.specs.Statements.{Annotates, AreAxioms, AreNodeAxioms, HasAxiom, HasNodeAxiom, IsAxiomOf, IsAxiomOfNode, header_notes, main_triples, IsNotedTree}
use Rattle.rdf_meaning.specs.Denotation.{DenotesOwn}
use Rattle.tree_stores.specs.declared.fault.TreeFault.{TreeFault}
use Rattle.tree_stores.specs.declared.fault.TreeFault.TheVariants.{TooDeep, TooHeavy, Memory}
use Rattle.tree_stores.specs.Stores.{HaveManyKids, IsDeep, IsHeavy, StandFor}

-- Each triple that is no annotation and no part of a node is an axiom, and each node whose role it is stands for one.
pub record StatesAxioms (g : List Triple) (k : List Entity) (header : Term) : Type 0 where
  pub triples : (t : Triple) → Contains (main_triples g k header) t → HasAxiom g k t
  pub nodes : (x : Term) → role_of g x ≡ role.Main → HasNodeAxiom g k x

-- A tree that a node denotes as an expression, that of an annotation or of a set of them, or that of an axiom.
pub data IsTreeOf (g : List Triple) (k : List Entity) (header : Term) : Tree → Type 0 where
  of_node : (label : List ℕ) (t : Tree) → DenotesOwn g k (Blank label) t → IsTreeOf g k header t
  of_annotation : (t : Tree) → IsNotedTree g k header t → IsTreeOf g k header t
  of_axiom : (u : Triple) (t : Tree) → Contains (main_triples g k header) u → IsAxiomOf g k u t → IsTreeOf g k header t
  of_axiom_node : (x : Term) (t : Tree) → role_of g x ≡ role.Main → IsAxiomOfNode g k x t → IsTreeOf g k header t

-- Some tree that the graph says is too deep or too heavy, or such trees have too many kids together; want of memory is told of any graph.
abbrev pub IsStatementFault : {H : Type 0} → List Triple → List Entity → Term → TreeFault H → Type 0
IsStatementFault g k header TooDeep = (t : Tree) × IsTreeOf g k header t × IsDeep t
IsStatementFault g k header (TooHeavy h) = ((t : Tree) × IsTreeOf g k header t × IsHeavy t) ⊎ HaveManyKids (IsTreeOf g k header)
IsStatementFault g k header Memory = Unit {0}

-- the tree is this one, or a kid of it, and so on down
pub data IsPartOf : Tree → Tree → Type 0 where
  itself : (t : Tree) → IsPartOf t t
  below : (t u : Tree) (tag : Tag) (us : List Tree) → Contains us u → IsPartOf t u → IsPartOf t (node tag (kids_of us))

-- some number stands for a tree of which this is a part
pub record IsHeldWithin {N : Type 0} (Stands : Tree → N → Type 0) (t : Tree) : Type 0 where
  pub whole : Tree
  pub part : IsPartOf t whole
  pub number : N
  pub stands : Stands whole number

-- The numbers stand for the annotations of the ontology, and for its axioms.
pub record AreStatements {N : Type 0} (Stands : Tree → N → Type 0) (g : List Triple) (k : List Entity) (header : Term) (annotations axioms : List N) : Type 0 where
  pub notes_in : List Tree
  pub are_notes : Annotates g k (header_notes g k header) notes_in
  pub notes_stand : StandFor Stands notes_in annotations
  pub by_triples : List Tree
  pub are_axioms : AreAxioms g k (main_triples g k header) by_triples
  pub by_nodes : List Tree
  pub are_node_axioms : AreNodeAxioms g k (nodes_of g role.Main) by_nodes
  pub axioms_stand : StandFor Stands (by_triples ++ by_nodes) axioms
