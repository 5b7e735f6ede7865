-- What the nodes of a graph stand for, by their labels (Mapping to RDF Graphs, section 3.2).
use Rattle.std.specs.Prelude.{◌≡◌, ◌↔◌, ◌<◌, ℕ, List, Option, None, Some, IfSome, IsNone, slice_get}
use Rattle.std.specs.Map.{lookup}
use Rattle.owl_characters.specs.Order.{text_eq}
use Rattle.owl_kind.specs.Kinds.{Entity}
use Rattle.owl_tree.specs.Trees.{Tree}
use Rattle.rdf_graph.specs.declared.term.Term.TheVariants.{Blank}
use Rattle.rdf_graph.specs.declared.triple.Triple.{Triple}
use Rattle.rdf_meaning.specs.Nodes.{role_of}
use Rattle.rdf_roles.specs.Tables.{RoleTable}
use Rattle.tree_stores.specs.declared.fault.TreeFault.{TreeFault}
use Rattle.tree_stores.specs.declared.fault.TreeFault.TheVariants as tree_fault
use Rattle.tree_stores.specs.Stores.{HasNumber, IsDeep, IsHeavy}
use Rattle.rdf_nodes.specs.declared.fault.DenoteFault.{DenoteFault}
use Rattle.rdf_nodes.specs.declared.fault.DenoteFault.TheVariants.{NumberTooLarge, TooDeep, TooHeavy, Memory}
use Rattle.rdf_nodes.specs.Large.{HasLargeNumber}
use Rattle.rdf_nodes.specs.Numbers.{AreShallow, HasNode, IsDenotedAs}
use Rattle.rdf_nodes.specs.Operands.{labels}
use Rattle.rdf_meaning.specs.Denotation.{sort_of}

-- labels with numbers
abbrev pub NumberTable : Type 0
NumberTable = List (List ℕ × ℕ)

-- the number of the label
abbrev pub entry_of : NumberTable → List ℕ → Option ℕ
entry_of entries label = lookup (text_eq label) entries

-- each label of an expression, and no other, has the number of what it denotes
pub record HoldNumbers (g : List Triple) (k : List Entity) (trees : List Tree) (entries : NumberTable) : Type 0 where
  pub each : (label : List ℕ) → IfSome (entry_of entries label) (IsDenotedAs g k (HasNumber trees) (Blank label))
  pub none : (label : List ℕ) → IsNone (entry_of entries label) ↔ (sort_of (role_of g (Blank label)) ≡ None)

-- so for the labels of the nodes below this number
pub record HoldNumbersUpTo (g : List Triple) (k : List Entity) (roles : RoleTable) (trees : List Tree) (number : ℕ) (entries : NumberTable) : Type 0 where
  pub each : (label : List ℕ) → IfSome (entry_of entries label) (IsDenotedAs g k (HasNumber trees) (Blank label))
  pub none : (node : ℕ) (label : List ℕ) → node < number → slice_get (labels roles) node ≡ Some label → IsNone (entry_of entries label) →
      sort_of (role_of g (Blank label)) ≡ None

-- no cardinality is too large, and the nodes have their numbers
pub record AreDenoted (g : List Triple) (k : List Entity) (trees : List Tree) (entries : NumberTable) : Type 0 where
  pub small : HasLargeNumber g → ⊥
  pub numbers : HoldNumbers g k trees entries

abbrev pub fault_of : {H : Type 0} → TreeFault H → DenoteFault
fault_of tree_fault.TooDeep = TooDeep
fault_of (tree_fault.TooHeavy h) = TooHeavy
fault_of tree_fault.Memory = Memory

-- a cardinality is too large; or none is, and some node denotes a tree that is too deep; or none does, and some node denotes one that is
-- too heavy
abbrev pub IsDenoteFault : List Triple → List Entity → DenoteFault → Type 0
IsDenoteFault g k NumberTooLarge = HasLargeNumber g
IsDenoteFault g k TooDeep = (HasLargeNumber g → ⊥) × HasNode g k IsDeep
IsDenoteFault g k TooHeavy = (HasLargeNumber g → ⊥) × AreShallow g k × HasNode g k IsHeavy
IsDenoteFault g k Memory = Unit {0}
