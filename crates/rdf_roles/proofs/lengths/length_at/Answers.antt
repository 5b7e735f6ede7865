use Rattle.std.proofs.Common.{rules}
use Rattle.rdf_roles.proofs.CellLengths.{no_cell_here, one_longer}
use Rattle.rdf_roles.proofs.lengths.length_at.Goals as goal

pub returns-in_ok-length-in-Some-cell : goal.returns-in_ok-length-in-Some-cell
returns-in_ok-length-in-Some-cell c =
    let g = c.args.graph.now in
    let node = c.in-Some.ensures g c.requires.table in
    one_longer g c.args.number c.in-Some.node.0.now node.0 c.args.lengths.now c.in_ok-about.field-0.now c.in-Some-cell.field-0-0.now c.in-Some-cell.rest.now c.length_of.result
    c.in_ok-length-in-Some-cell.length c.requires.cells c.in_ok-about.ensures c.in-Some-cell.ensures c.requires.below (c.length_of.ensures g c.requires.table) (search rules)

pub returns-in-None-cell : goal.returns-in-None-cell
returns-in-None-cell c =
    let g = c.args.graph.now in
    let node = c.in-Some.ensures g c.requires.table in
    no_cell_here g c.args.number c.in-Some.node.0.now node.0 c.in_ok-about.field-0.now 0 c.requires.cells c.in_ok-about.ensures c.in-None-cell.ensures
