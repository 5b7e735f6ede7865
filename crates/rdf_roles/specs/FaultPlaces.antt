-- What the scans of nodes tell of a node, by its number, and of a triple.
use Rattle.std.specs.Prelude.{◌≡◌, ◌<◌, ℕ, List, Some, slice_get}
use Rattle.owl_kind.specs.Kinds.{Entity}
use Rattle.rdf_graph.specs.declared.term.Term.{Term}
use Rattle.rdf_graph.specs.declared.term.Term.TheVariants.{Blank}
use Rattle.rdf_graph.specs.declared.triple.Triple.{Triple}
use Rattle.rdf_faults.specs.Faults.{IsBadCell, IsBadNode, IsMixed, IsUntypedPart}
use Rattle.rdf_roles.specs.Tables.{blank_nodes}
use Rattle.rdf_roles.specs.declared.fault.NodeFault.{NodeFault}
use Rattle.rdf_roles.specs.declared.fault.NodeFault.TheVariants.{Mixed, BadList, Cycle, BadNode, Memory}

-- the term is a node with the marks of two roles
abbrev pub IsMixedFault : List Triple → Term → NodeFault → Type 0
IsMixedFault g term (Mixed label) = (term ≡ Blank label) × IsMixed g label
IsMixedFault g term (BadList label) = ⊥
IsMixedFault g term (Cycle label) = ⊥
IsMixedFault g term (BadNode label) = ⊥
IsMixedFault g term Memory = Unit {0}

-- the node with the number is not wrong
abbrev pub HasNoFaultAt : (List ℕ → Type 0) → List Triple → ℕ → Type 0
HasNoFaultAt wrong g number = (label : List ℕ) → slice_get (blank_nodes g) number ≡ Some label → wrong label → ⊥

-- the node with the number is a bad cell
abbrev pub IsBadListAt : List Triple → ℕ → NodeFault → Type 0
IsBadListAt g number (Mixed label) = ⊥
IsBadListAt g number (BadList label) = (slice_get (blank_nodes g) number ≡ Some label) × IsBadCell g label
IsBadListAt g number (Cycle label) = ⊥
IsBadListAt g number (BadNode label) = ⊥
IsBadListAt g number Memory = Unit {0}

-- the fault names the node with the number
abbrev pub IsCycleAt : List Triple → ℕ → NodeFault → Type 0
IsCycleAt g number (Mixed label) = ⊥
IsCycleAt g number (BadList label) = ⊥
IsCycleAt g number (Cycle label) = slice_get (blank_nodes g) number ≡ Some label
IsCycleAt g number (BadNode label) = ⊥
IsCycleAt g number Memory = Unit {0}

-- the node with the number is a bad one, which is no cell
abbrev pub IsBadNodeAt : List Triple → ℕ → NodeFault → Type 0
IsBadNodeAt g number (Mixed label) = ⊥
IsBadNodeAt g number (BadList label) = ⊥
IsBadNodeAt g number (Cycle label) = ⊥
IsBadNodeAt g number (BadNode label) = (slice_get (blank_nodes g) number ≡ Some label) × IsBadNode g label
IsBadNodeAt g number Memory = Unit {0}

-- the first triple of a node that names what it may not
pub record IsFirstUntyped (g : List Triple) (k : List Entity) (place : ℕ) : Type 0 where
  pub triple : Triple
  pub stands : slice_get g place ≡ Some triple
  pub untyped : IsUntypedPart g k triple
  pub first : (other : ℕ) (t : Triple) → other < place → slice_get g other ≡ Some t → IsUntypedPart g k t → ⊥
