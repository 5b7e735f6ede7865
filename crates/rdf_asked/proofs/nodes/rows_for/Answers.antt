use Rattle.rdf_asked.proofs.TypedNodes.{axiom_rows_among, node_rows_among}
use Rattle.rdf_asked.proofs.nodes.rows_for.Goals as goal

pub returns-in-Main : goal.returns-in-Main
returns-in-Main c = axiom_rows_among c.axiom_rows.result.now c.axiom_rows.ensures

pub returns-in_default : goal.returns-in_default
returns-in_default c = node_rows_among c.node_rows.result.now c.node_rows.ensures
