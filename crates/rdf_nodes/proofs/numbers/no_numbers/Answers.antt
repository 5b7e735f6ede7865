use Rattle.std.proofs.Common.{arith}
use Rattle.rdf_nodes.proofs.numbers.no_numbers.Goals as goal

pub returns-clause-many : goal.returns-clause-many
returns-clause-many g c =
    let many = c.loop-node.invariant.1 in
    omega (arith, many, c.loop-node-test.false, c.loop-node.auto._node-end)
