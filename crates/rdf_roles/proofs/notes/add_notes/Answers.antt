use Rattle.std.proofs.Common.{arith}
use Rattle.rdf_roles.proofs.NodeLaws.{table_length}
use Rattle.rdf_roles.proofs.NotedUnder.{all_ways}
use Rattle.rdf_roles.proofs.notes.add_notes.Goals as goal

pub returns : goal.returns
returns c =
    all_ways c.args.graph.now c.loop-number.number _
    (omega (arith, table_length c.args.graph.now c.args.table.now.entries c.requires.table, c.len-number-end.ensures.len, c.loop-number.auto.number-end, c.loop-number-test.false))
    c.loop-number.invariant
