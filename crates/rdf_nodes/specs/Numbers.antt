-- The numbers, in a store, of the trees that operands and nodes stand for.
use Rattle.std.specs.Prelude.{◌≡◌, ◌<◌, ◌⊎◌, ℕ, Bool, IsTrue, List, Contains, Option, Some, length, slice_get}
use Rattle.owl_kind.specs.Kinds.{Entity}
use Rattle.owl_tree.specs.declared.row.Sort.{Sort}
use Rattle.owl_tree.specs.Trees.{Tree}
use Rattle.rdf_graph.specs.declared.term.Term.{Term}
use Rattle.rdf_graph.specs.declared.term.Term.TheVariants.{Blank}
use Rattle.rdf_graph.specs.declared.triple.Triple.{Triple}
use Rattle.rdf_meaning.specs.Denotation.{DenotesOwn, sort_of}
use Rattle.rdf_meaning.specs.Nodes.{role_of}
use Rattle.rdf_roles.specs.OrderLaws.{AreClosed}
use Rattle.rdf_roles.specs.Tables.{IsNode, LeadsTo, RoleTable}
use Rattle.tree_stores.specs.declared.fault.TreeFault.{TreeFault}
use Rattle.tree_stores.specs.declared.fault.TreeFault.TheVariants.{TooDeep, TooHeavy, Memory}
use Rattle.tree_stores.specs.Stores.{HaveKids, HaveManyKids, IsDeep, IsHeavy, IsHeld, StandFor}
use Rattle.rdf_nodes.specs.declared.form.Form.{Form}
use Rattle.rdf_nodes.specs.declared.form.Operand.{Operand}
use Rattle.rdf_nodes.specs.declared.form.Operand.TheVariants as operand
use Rattle.rdf_nodes.specs.Large.{HasLargeNumber}
use Rattle.rdf_nodes.specs.Operands.{AllMean, IsDenotedBy, IsForm, Means, labels}

-- no node has a number
abbrev pub HaveNone : {N : Type 0} → List (Option N) → Type 0
HaveNone {N} ns = (node : ℕ) (n : N) → slice_get ns node ≡ Some (Some n) → ⊥

-- the node has a number
pub record HasOne {N : Type 0} (ns : List (Option N)) (node : ℕ) : Type 0 where
  pub number : N
  pub at : slice_get ns node ≡ Some (Some number)

-- so has the node, where it is an expression
abbrev pub IsKnown : {N : Type 0} → List Triple → RoleTable → List (Option N) → ℕ → Type 0
IsKnown g roles ns node = (label : List ℕ) (s : Sort) → slice_get (labels roles) node ≡ Some label → sort_of (role_of g (Blank label)) ≡ Some s → HasOne ns node

-- so has each expression
abbrev pub AreKnown : {N : Type 0} → List Triple → RoleTable → List (Option N) → Type 0
AreKnown g roles ns = (node : ℕ) → node < length roles.nodes → IsKnown g roles ns node

-- the node that the operand is has a number
abbrev pub HasItsNumber : {N : Type 0} → List (Option N) → Operand → Type 0
HasItsNumber ns (operand.Leaf t a) = Unit {0}
HasItsNumber ns (operand.Facet iri literal) = Unit {0}
HasItsNumber ns (operand.Node node) = HasOne ns node

-- each number of the term is among these
abbrev pub IsPassed : List Triple → List ℕ → Term → Type 0
IsPassed g passed x = (number : ℕ) → IsNode g x number → Contains passed number

-- So are those of the nodes to which the term leads, and those to which these lead, and each of these that is an expression has a number.
pub record AreKnownBelow {N : Type 0} (g : List Triple) (roles : RoleTable) (ns : List (Option N)) (x : Term) : Type 0 where
  pub passed : List ℕ
  pub closed : AreClosed g passed
  pub below : (y : Term) → LeadsTo g x y → IsPassed g passed y
  pub known : (node : ℕ) → Contains passed node → IsKnown g roles ns node

module _ (g : List Triple) (k : List Entity) (roles : RoleTable) where
  -- the number stands for what the node denotes
  pub record IsNumbered {N : Type 0} (Stands : Tree → N → Type 0) (node : ℕ) (n : N) : Type 0 where
    pub tree : Tree
    pub denoted : IsDenotedBy g k roles node tree
    pub held : Stands tree n

  -- so for each node that has a number
  abbrev pub AreNumbered : {N : Type 0} → (Tree → N → Type 0) → List (Option N) → Type 0
  AreNumbered {N} Stands ns = (node : ℕ) (n : N) → slice_get ns node ≡ Some (Some n) → IsNumbered Stands node n

  -- the number stands for what the operand stands for
  pub record StandsFor {N : Type 0} (Stands : Tree → N → Type 0) (o : Operand) (n : N) : Type 0 where
    pub tree : Tree
    pub means : Means g k roles o tree
    pub held : Stands tree n

  -- so for operands and numbers, one by one
  pub record AllStand {N : Type 0} (Stands : Tree → N → Type 0) (os : List Operand) (ns : List N) : Type 0 where
    pub meant : List Tree
    pub mean : AllMean g k roles os meant
    pub held : StandFor Stands meant ns

-- and the number stands for it
pub record IsDenotedAs (g : List Triple) (k : List Entity) {N : Type 0} (Stands : Tree → N → Type 0) (x : Term) (n : N) : Type 0 where
  pub tree : Tree
  pub own : DenotesOwn g k x tree
  pub held : Stands tree n

-- some number stands for what each node denotes
abbrev pub AreAllHeld : List Triple → List Entity → {N : Type 0} → (Tree → N → Type 0) → Type 0
AreAllHeld g k Stands = (label : List ℕ) (t : Tree) → DenotesOwn g k (Blank label) t → IsHeld Stands t

-- it denotes a tree that a store does not take; want of memory is told of any
abbrev pub IsNodeFault : {H : Type 0} → List Triple → List Entity → Term → TreeFault H → Type 0
IsNodeFault g k x Memory = Unit {0}
IsNodeFault g k x TooDeep = (t : Tree) × DenotesOwn g k x t × IsDeep t
IsNodeFault g k x (TooHeavy h) = (t : Tree) × DenotesOwn g k x t × IsHeavy t

-- some node denotes a tree of which the fact holds
abbrev pub HasNode : List Triple → List Entity → (Tree → Type 0) → Type 0
HasNode g k P = (label : List ℕ) × ((t : Tree) × DenotesOwn g k (Blank label) t × P t)

-- some node denotes a tree that a store does not take
abbrev pub IsSomeNodeFault : {H : Type 0} → List Triple → List Entity → TreeFault H → Type 0
IsSomeNodeFault g k Memory = Unit {0}
IsSomeNodeFault g k TooDeep = HasNode g k IsDeep
IsSomeNodeFault g k (TooHeavy h) = HasNode g k IsHeavy

-- some node denotes the tree
abbrev pub IsNodeTree : List Triple → List Entity → Tree → Type 0
IsNodeTree g k t = (label : List ℕ) × DenotesOwn g k (Blank label) t

-- different trees that nodes denote, and that stand, have at least so many kids together
abbrev pub HaveNodeKids : List Triple → List Entity → {N : Type 0} → (Tree → N → Type 0) → ℕ → Type 0
HaveNodeKids g k Stands sum = HaveKids (IsNodeTree g k) Stands sum

-- Some node denotes a tree that a store does not take; or, where that is limited, what the nodes denote has too many kids together.
abbrev pub IsNumbersFault : {H : Type 0} → List Triple → List Entity → Bool → TreeFault H → Type 0
IsNumbersFault g k limited Memory = Unit {0}
IsNumbersFault g k limited TooDeep = HasNode g k IsDeep
IsNumbersFault g k limited (TooHeavy h) = HasNode g k IsHeavy ⊎ (IsTrue limited × HaveManyKids (IsNodeTree g k))

-- no node denotes a tree that is too deep
abbrev pub AreShallow : List Triple → List Entity → Type 0
AreShallow g k = HasNode g k IsDeep → ⊥

-- the node is an expression, and the form is its
pub record IsExpression (g : List Triple) (k : List Entity) (roles : RoleTable) (x : Term) (what : Form) : Type 0 where
  pub sort : Sort
  pub gives : sort_of (role_of g x) ≡ Some sort
  pub form : IsForm g k roles x what

-- no cardinality is too large, and each node whose role is that of expressions denotes a tree
pub record DenoteTrees (g : List Triple) (k : List Entity) : Type 0 where
  pub small : HasLargeNumber g → ⊥
  pub trees : (label : List ℕ) (s : Sort) → sort_of (role_of g (Blank label)) ≡ Some s → (t : Tree) × DenotesOwn g k (Blank label) t

-- The node with the number is the next for which one is sought: those below it are known.
pub record IsNextOf {N : Type 0} (g : List Triple) (roles : RoleTable) (ns : List (Option N)) (node : ℕ) : Type 0 where
  pub within : node < length roles.nodes
  pub places : length ns ≡ length roles.nodes
  pub below : (label : List ℕ) → slice_get (labels roles) node ≡ Some label → AreKnownBelow g roles ns (Blank label)

-- it is known now, and so are those that were known before
pub record IsPassedIn {N : Type 0} (g : List Triple) (roles : RoleTable) (old new : List (Option N)) (node : ℕ) : Type 0 where
  pub places : length new ≡ length old
  pub known : IsKnown g roles new node
  pub others : (other : ℕ) → IsKnown g roles old other → IsKnown g roles new other

-- The node has its number, and all numbers stand for what the nodes denote.
pub record IsAddedTo (g : List Triple) (k : List Entity) (roles : RoleTable) {N : Type 0} (Stands : Tree → N → Type 0) (old new : List (Option N)) (node : ℕ) : Type 0 where
  pub numbered : AreNumbered g k roles Stands new
  pub known : IsPassedIn g roles old new node
