use Rattle.rdf_roles.specs.Refusals.{AreNodesFormed}
use Rattle.rdf_meaning.specs.Denotation.{of_triple}
use Rattle.rdf_statements.proofs.Finding.{NoneOfFirst}
use Rattle.rdf_statements.proofs.forms.form_at_site.Given as goal

abbrev pub invariant-loop-row : goal.invariant-loop-row
invariant-loop-row l = AreNodesFormed l.source.graph.now → NoneOfFirst l.source.graph.now l.source.kinds.now (of_triple l.triple) l.row-items l.row-index
