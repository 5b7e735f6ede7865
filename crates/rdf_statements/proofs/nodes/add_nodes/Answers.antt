use Rattle.std.proofs.Common.{◌≡◌, [], arith, get_or, length}
use Rattle.rdf_roles.specs.Tables.{blank_nodes}
use Rattle.rdf_statements.proofs.Adding.{all_nodes, as_many_nodes, known_still, next_node, no_nodes, some_at}
use Rattle.rdf_statements.proofs.WithoutNotes.{none_bare}
use Rattle.rdf_statements.proofs.nodes.add_nodes.Goals as goal

pub add_node-requires-clause-known : goal.add_node-requires-clause-known
add_node-requires-clause-known g c =
    let stands = g.S.TreeStore.stands in
    known_still (stands c.args.store.now) (stands c.loop-number.store) c.loop-number.invariant.0.kept c.args.known.now c.requires.known

pub loop-number-init : goal.loop-number-init
loop-number-init g c =
    let reading = c.args.known.now.annotated.reading in
    let stands = g.S.TreeStore.stands c.args.store.now in (
      no_nodes stands reading.graph.now reading.kinds.now c.args.axioms.now.numbers.items,
      none_bare reading.graph.now reading.kinds.now reading.roles.now stands c.in_ok-bare.bare.numbers.items c.in_ok-bare.ensures,
      c.requires.kids,
    )

pub loop-number-preserved : goal.loop-number-preserved
loop-number-preserved g c =
    let stands = g.S.TreeStore.stands in
    let reading = c.args.known.now.annotated.reading in
    let graph = reading.graph.now in
    let number = c.loop-number.number in
    let end = c.len-number-end.ensures in
    let many = as_many_nodes graph reading.roles.now c.requires.known.annotated.reading.table in
    let at = some_at (blank_nodes graph) number [] (omega (arith, c.loop-number-test.true, end, many)) in (
      next_node (stands c.args.store.now) graph reading.kinds.now (stands c.loop-number.store) (stands c.add_node.new.store) number (get_or (blank_nodes graph) number [])
          c.args.axioms.now.numbers.items c.loop-number.axioms.numbers.items c.add_node.new.axioms.numbers.items at c.loop-number.invariant.0 c.add_node.ensures.kept
          (c.in_ok-add_node.ensures.added (get_or (blank_nodes graph) number []) at),
      c.in_ok-add_node.ensures.bare,
      c.in_ok-add_node.ensures.kids,
    )

pub returns-clause-added : goal.returns-clause-added
returns-clause-added g c =
    let stands = g.S.TreeStore.stands in
    let reading = c.args.known.now.annotated.reading in
    let graph = reading.graph.now in
    let end = c.len-number-end.ensures in
    let many = as_many_nodes graph reading.roles.now c.requires.known.annotated.reading.table in
    let all : c.loop-number.number ≡ length (blank_nodes graph) = omega (arith, c.loop-number-test.false, c.loop-number.auto.number-end, end, many) in
    all_nodes (stands c.args.store.now) graph reading.kinds.now (stands c.loop-number.store) c.loop-number.number c.args.axioms.now.numbers.items c.loop-number.axioms.numbers.items all
    c.loop-number.invariant.0
