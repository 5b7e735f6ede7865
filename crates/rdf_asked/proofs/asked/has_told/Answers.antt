use Rattle.rdf_meaning.specs.Rows.{axiom_rows, node_rows, row_seen}
use Rattle.rdf_asked.specs.Asking.{IsTold}
use Rattle.rdf_asked.proofs.Suited.{second_has}
use Rattle.rdf_asked.proofs.asked.has_told.Goals as goal

pub returns-else-has_told_row : goal.returns-else-has_told_row
returns-else-has_told_row c =
    second_has row_seen (IsTold c.args.source.now.graph.now c.args.source.now.kinds.now c.args.triple.now) c.node_rows.result.now c.axiom_rows.result.now node_rows axiom_rows c.node_rows.ensures
    c.axiom_rows.ensures c.has_told_row.result c.has_told_row-else-has_told_row.result c.if-has_told_row.false c.has_told_row.ensures c.has_told_row-else-has_told_row.ensures
