use Rattle.std.proofs.Common.{arith}
use Rattle.rdf_faults.specs.Faults.{IsBadCell}
use Rattle.rdf_roles.proofs.FirstLaws.{holds_for_none}
use Rattle.rdf_roles.proofs.NodeLaws.{table_length}
use Rattle.rdf_roles.specs.Tables.{blank_nodes}
use Rattle.rdf_roles.proofs.CellTriples.{bad_cell_stops}
use Rattle.owl_characters.proofs.ResultLaws.{passed}
use Rattle.rdf_roles.proofs.cells.check_cells.Goals as goal

pub returns-in_err-check_cell-clause-fault : goal.returns-in_err-check_cell-clause-fault
returns-in_err-check_cell-clause-fault c =
    passed c.from_residual.result c.in_err-check_cell.field-0.0 _ c.from_residual.ensures.1
    (bad_cell_stops c.args.graph.now c.loop-number.number c.requires.one_role c.loop-number.invariant c.in_err-check_cell.field-0.0 c.in_err-check_cell.ensures.fault)

pub returns-clause-ok : goal.returns-clause-ok
returns-clause-ok c =
    holds_for_none (IsBadCell c.args.graph.now) (blank_nodes c.args.graph.now) c.loop-number.number
    (omega (arith, table_length c.args.graph.now c.args.table.now.entries c.requires.table, c.len-number-end.ensures.len, c.loop-number.auto.number-end, c.loop-number-test.false))
    c.loop-number.invariant
