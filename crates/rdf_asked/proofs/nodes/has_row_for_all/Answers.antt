use Rattle.rdf_meaning.specs.Rows.{row_seen}
use Rattle.rdf_asked.specs.Asking.{AsksForAll}
use Rattle.rdf_asked.proofs.TypedNodes.{some_at}
use Rattle.rdf_asked.proofs.nodes.has_row_for_all.Goals as goal

pub returns-then-is_for_all : goal.returns-then-is_for_all
returns-then-is_for_all c h =
    some_at (λ row. AsksForAll c.args.source.now.graph.now c.args.source.now.kinds.now c.args.node.now (row_seen row)) c.args.rows.now c.loop-row.row-index _ c.loop-row-test.true
    ((c.is_for_all.ensures c.args.node.now c.requires.role c.about-triples.ensures).0 c.if-is_for_all.true)
