-- The first node on a cycle.
use Rattle.std.specs.Prelude.{ℕ, List}
use Rattle.directed_graphs.specs.Cycles.{IsFirstOnCycle}
use Rattle.rdf_graph.specs.declared.triple.Triple.{Triple}
use Rattle.rdf_roles.specs.declared.fault.NodeFault.{NodeFault}
use Rattle.rdf_roles.specs.declared.fault.NodeFault.TheVariants.{Mixed, BadList, Cycle, BadNode, Memory}
use Rattle.rdf_roles.specs.Refusals.{HaveCells, HaveOneRole, IsNodeFault}
use Rattle.rdf_roles.specs.FaultPlaces.{IsCycleAt}
use Rattle.rdf_roles.specs.Tables.{AreEdges}
use Rattle.rdf_roles.proofs.WayLaws.{first_cycle}

pub cycle_stops : (g : List Triple) (edges : List (List ℕ)) (number : ℕ) → HaveOneRole g → HaveCells g → AreEdges g edges → IsFirstOnCycle edges number
    → (fault : NodeFault) → IsCycleAt g number fault → IsNodeFault g fault
cycle_stops g edges number one cells are first (Mixed label) f = absurd f
cycle_stops g edges number one cells are first (BadList label) f = absurd f
cycle_stops g edges number one cells are first (Cycle label) f = (one, cells, first_cycle g edges are number label f first)
cycle_stops g edges number one cells are first (BadNode label) f = absurd f
cycle_stops g edges number one cells are first Memory f = tt
