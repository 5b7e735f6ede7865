use Rattle.directed_graphs.specs.Cycles.{edges_of}
use Rattle.rdf_roles.specs.Ways.{HaveWaysDown}
use Rattle.rdf_roles.proofs.ways.add_ways_down.Given as goal

abbrev pub invariant-loop-number : goal.invariant-loop-number
invariant-loop-number l = HaveWaysDown l.graph l.number (edges_of l.ways.items)
