use Rattle.graph_walks.specs.Edges.{edges_of}
use Rattle.graph_walks.proofs.Finding.{AreFollowed}
use Rattle.graph_walks.proofs.reach.found_from.Given as goal

abbrev pub invariant-loop-place : goal.invariant-loop-place
invariant-loop-place l = AreFollowed (edges_of l.edges) l.starts l.found l.place
