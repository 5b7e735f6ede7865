use Rattle.rdf_scans.proofs.Declaring.{HasDeclared}
use Rattle.rdf_scans.proofs.declarations.declare_graph.Given as goal

abbrev pub invariant-triples : goal.invariant-triples
invariant-triples l = HasDeclared l.triple-items l.triple-index l.fn.kinds l.kinds
