-- Why the nodes of a graph have no roles of which an ontology is made: the first that is wrong, where nothing that is asked before is wrong
-- with any.
use Rattle.std.specs.Prelude.{ℕ, List}
use Rattle.rdf_graph.specs.declared.triple.Triple.{Triple}
use Rattle.rdf_faults.specs.Faults.{IsBadCell, IsBadNode, IsCyclic, IsMixed}
use Rattle.rdf_faults.specs.Firsts.{HoldsForNone, IsFirst}
use Rattle.rdf_roles.specs.Tables.{blank_nodes}
use Rattle.rdf_roles.specs.declared.fault.NodeFault.{NodeFault}
use Rattle.rdf_roles.specs.declared.fault.NodeFault.TheVariants.{Mixed, BadList, Cycle, BadNode, Memory}

-- nothing is wrong with the roles, the cells, the ways down, or the form of any node
abbrev pub HaveOneRole : List Triple → Type 0
HaveOneRole g = HoldsForNone (IsMixed g) (blank_nodes g)

abbrev pub HaveCells : List Triple → Type 0
HaveCells g = HoldsForNone (IsBadCell g) (blank_nodes g)

abbrev pub HaveNoCycle : List Triple → Type 0
HaveNoCycle g = HoldsForNone (IsCyclic g) (blank_nodes g)

abbrev pub HaveForms : List Triple → Type 0
HaveForms g = HoldsForNone (IsBadNode g) (blank_nodes g)

pub record AreNodesFormed (g : List Triple) : Type 0 where
  pub one_role : HaveOneRole g
  pub cells : HaveCells g
  pub no_cycle : HaveNoCycle g
  pub forms : HaveForms g

-- the first node of which this is so
abbrev pub IsFirstNode : List Triple → (List ℕ → Type 0) → List ℕ → Type 0
IsFirstNode g wrong label = IsFirst wrong (blank_nodes g) label

-- the fault of a graph, which is told for the first node that has it
abbrev pub IsNodeFault : List Triple → NodeFault → Type 0
IsNodeFault g (Mixed label) = IsFirstNode g (IsMixed g) label
IsNodeFault g (BadList label) = HaveOneRole g × IsFirstNode g (IsBadCell g) label
IsNodeFault g (Cycle label) = HaveOneRole g × HaveCells g × IsFirstNode g (IsCyclic g) label
IsNodeFault g (BadNode label) = HaveOneRole g × HaveCells g × HaveNoCycle g × IsFirstNode g (IsBadNode g) label
IsNodeFault g Memory = Unit {0}
