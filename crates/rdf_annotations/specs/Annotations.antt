-- The annotations of a graph, and their sets, as they stand in a store (Mapping to RDF Graphs, sections 2.3 and 3.3).
use Rattle.std.specs.Prelude.{◌≡◌, ℕ, IsTrue, List, [], Contains, Option, Some, length, slice_get}
use Rattle.std.specs.List.{filter}
use Rattle.std.specs.Map.{keys_of}
use Rattle.owl_kind.specs.Kinds.{Entity}
use Rattle.owl_tree.specs.Trees.{Tree}
use Rattle.rdf_graph.specs.declared.term.Term.{Term}
use Rattle.rdf_graph.specs.declared.term.Term.TheVariants.{Blank}
use Rattle.rdf_graph.specs.declared.triple.Triple.{Triple}
use Rattle.rdf_meaning.specs.declared.role.Role.TheVariants as role
use Rattle.rdf_meaning.specs.Nodes.{of_subject, role_of}
use Rattle.rdf_meaning.specs.Statements.{Annotates, Variants, is_annotation_triple, noters, notes, notes_of}
use Rattle.rdf_roles.specs.Tables.{RoleTable}
use Rattle.tree_stores.specs.Stores.{IsDeep, IsHeavy, StandFor}
use Rattle.tree_stores.specs.declared.fault.TreeFault.{TreeFault}
use Rattle.tree_stores.specs.declared.fault.TreeFault.TheVariants.{TooDeep, TooHeavy, Memory}

-- the annotations that stand at a term: at the header, at a reification, or at a node that stands for an axiom
abbrev pub annotations_at : List Triple → List Entity → Term → Term → List Triple
annotations_at g k header x = filter (is_annotation_triple g k header) (of_subject g x)

-- some tree of these is too deep or too heavy; want of memory is told of any
abbrev pub IsFaultOfSome : {H : Type 0} → (Tree → Type 0) → TreeFault H → Type 0
IsFaultOfSome P TooDeep = (t : Tree) × P t × IsDeep t
IsFaultOfSome P (TooHeavy h) = (t : Tree) × P t × IsHeavy t
IsFaultOfSome P Memory = Unit {0}

-- the numbers stand for the sets of annotations of the triple
pub record AreVariants {N : Type 0} (Stands : Tree → N → Type 0) (g : List Triple) (k : List Entity) (t : Triple) (ns : List N) : Type 0 where
  pub sets : List Tree
  pub variants : Variants g k t sets
  pub stand : StandFor Stands sets ns

-- the numbers stand for the annotations that stand at the term
pub record AreAnnotations {N : Type 0} (Stands : Tree → N → Type 0) (g : List Triple) (k : List Entity) (header x : Term) (ns : List N) : Type 0 where
  pub trees : List Tree
  pub annotates : Annotates g k (annotations_at g k header x) trees
  pub stand : StandFor Stands trees ns

-- the number stands for their set
pub record IsSetOf {N : Type 0} (Stands : Tree → N → Type 0) (g : List Triple) (k : List Entity) (x : Term) (n : N) : Type 0 where
  pub trees : List Tree
  pub annotates : Annotates g k (notes_of g x) trees
  pub stands : Stands (notes trees) n

-- By the numbers of nodes: the numbers of the sets of annotations of some reifications; and that of the empty set.
pub record AreSomeSets {N : Type 0} (Stands : Tree → N → Type 0) (g : List Triple) (k : List Entity) (roles : RoleTable) (of_nodes : List (Option N)) (empty : N) : Type 0 where
  pub each : (number : ℕ) (label : List ℕ) (n : N) → slice_get (keys_of roles.nodes) number ≡ Some label → slice_get of_nodes number ≡ Some (Some n) →
      IsSetOf Stands g k (Blank label) n
  pub empty_set : Stands (notes []) empty

-- a set stands at the number
abbrev pub HasSet : {N : Type 0} → List (Option N) → ℕ → Type 0
HasSet {N} of_nodes number = (n : N) × (slice_get of_nodes number ≡ Some (Some n))

-- the node with the number has its set, where it is a reification
abbrev pub HasItsSet : {N : Type 0} → List Triple → RoleTable → List (Option N) → ℕ → Type 0
HasItsSet g roles of_nodes number =
    (label : List ℕ) → slice_get (keys_of roles.nodes) number ≡ Some label → role_of g (Blank label) ≡ role.Note → HasSet of_nodes number

-- each node by which the triple is annotated has its set
abbrev pub HaveSetsOf : {N : Type 0} → List Triple → RoleTable → List (Option N) → Triple → Type 0
HaveSetsOf g roles of_nodes t =
    (number : ℕ) (label : List ℕ) → slice_get (keys_of roles.nodes) number ≡ Some label → Contains (noters g t) (Blank label) → HasSet of_nodes number

-- so has each by which an annotation of the term is
abbrev pub HaveSetsAt : {N : Type 0} → List Triple → List Entity → Term → RoleTable → List (Option N) → Term → Type 0
HaveSetsAt g k header roles of_nodes x =
    (t : Triple) → Contains g t → t.subject ≡ x → IsTrue (is_annotation_triple g k header t) → HaveSetsOf g roles of_nodes t

-- so it is of the node with the number, where that is a reification
abbrev pub HaveSetsBelow : {N : Type 0} → List Triple → List Entity → Term → RoleTable → List (Option N) → ℕ → Type 0
HaveSetsBelow g k header roles of_nodes number =
    (label : List ℕ) → slice_get (keys_of roles.nodes) number ≡ Some label → role_of g (Blank label) ≡ role.Note →
    HaveSetsAt g k header roles of_nodes (Blank label)

-- so has each node
pub record HaveSets {N : Type 0} (g : List Triple) (roles : RoleTable) (of_nodes : List (Option N)) : Type 0 where
  pub each : (number : ℕ) → HasItsSet g roles of_nodes number

-- With a place for each node, those of the reifications among the nodes that were passed.
pub record AreSetsSoFar {N : Type 0} (Stands : Tree → N → Type 0) (g : List Triple) (k : List Entity) (roles : RoleTable) (passed : List ℕ) (of_nodes : List (Option N)) (empty : N) : Type 0 where
  pub some : AreSomeSets Stands g k roles of_nodes empty
  pub places : length of_nodes ≡ length roles.nodes
  pub have : (number : ℕ) → Contains passed number → HasItsSet g roles of_nodes number

-- By the numbers of nodes: the numbers of the sets of annotations of all reifications; and that of the empty set.
pub record AreSets {N : Type 0} (Stands : Tree → N → Type 0) (g : List Triple) (k : List Entity) (roles : RoleTable) (of_nodes : List (Option N)) (empty : N) : Type 0 where
  pub some : AreSomeSets Stands g k roles of_nodes empty
  pub all : HaveSets g roles of_nodes
