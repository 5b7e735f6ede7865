use Rattle.std.specs.Prelude.{Contains}
use Rattle.owl_list.proofs.AscendingLaws.{all_in}
use Rattle.rdf_meaning.specs.Rows.{row_seen}
use Rattle.rdf_faults.specs.Asked.{rows}
use Rattle.rdf_asked.proofs.TypedNodes.{typed_by_role, typed_by_row}
use Rattle.rdf_asked.proofs.nodes.is_typed_node.Goals as goal

pub returns-in-Property : goal.returns-in-Property
returns-in-Property c h =
    let found = c.has_row_for_all.ensures h in
    let among = all_in (λ row. Contains rows (row_seen row)) c.rows_for.result.now found.element c.rows_for.ensures found.inside in
    typed_by_row c.args.source.now.graph.now c.args.source.now.kinds.now c.args.node.now c.role_of_term-role.result (c.role_of_term-role.ensures c.args.source.now.graph.now c.requires.source.table) c.in-Property.is
    (row_seen found.element) among found.holds

pub returns-in-List : goal.returns-in-List
returns-in-List c h =
    typed_by_role c.args.source.now.graph.now c.args.source.now.kinds.now c.args.node.now c.role_of_term-role.result (c.role_of_term-role.ensures c.args.source.now.graph.now c.requires.source.table) c.in-List.is
