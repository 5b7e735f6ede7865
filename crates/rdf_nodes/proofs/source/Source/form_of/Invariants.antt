use Rattle.rdf_nodes.proofs.Denoting.{NoneOfFirst}
use Rattle.rdf_nodes.proofs.source.Source.form_of.Given as goal

abbrev pub invariant-loop-row : goal.invariant-loop-row
invariant-loop-row l = NoneOfFirst l.self.graph.now l.self.kinds.now l.node l.row-items l.row-index
