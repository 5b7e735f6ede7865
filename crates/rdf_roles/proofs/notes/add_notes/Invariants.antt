use Rattle.directed_graphs.specs.Cycles.{edges_of}
use Rattle.rdf_roles.specs.Ways.{AreWays}
use Rattle.rdf_roles.proofs.notes.add_notes.Given as goal

abbrev pub invariant-loop-number : goal.invariant-loop-number
invariant-loop-number l = AreWays l.graph l.number (edges_of l.ways.items)
