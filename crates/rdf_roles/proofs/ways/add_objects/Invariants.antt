use Rattle.std.proofs.Common.{◌≡◌, List, length}
use Rattle.rdf_graph.specs.declared.triple.Triple.{Triple}
use Rattle.rdf_roles.specs.Tables.{table_of}
use Rattle.rdf_roles.proofs.Down.{AreLeft}
use Rattle.rdf_roles.proofs.ways.add_objects.Given as goal

abbrev pub invariant-loop-triple : goal.invariant-loop-triple
invariant-loop-triple l = (g : List Triple) → l.table.entries ≡ table_of g → AreLeft g l.role l.ways.items l.rest l.fn.ways.items l.fn.triples

abbrev pub decreases-loop-triple : goal.decreases-loop-triple
decreases-loop-triple l = length l.rest
