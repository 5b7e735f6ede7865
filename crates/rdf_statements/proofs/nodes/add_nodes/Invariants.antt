use Rattle.rdf_statements.specs.Holding.{HaveKnownKids}
use Rattle.rdf_statements.specs.BareAxioms.{AreBareAxioms}
use Rattle.rdf_statements.proofs.Adding.{NodesUpTo}
use Rattle.rdf_statements.proofs.nodes.add_nodes.Given as goal

abbrev pub invariant-loop-number : goal.invariant-loop-number
invariant-loop-number g l =
    let reading = l.known.annotated.reading in
    NodesUpTo (g.S.TreeStore.stands l.fn.store) reading.graph.now reading.kinds.now (g.S.TreeStore.stands l.store) l.number l.fn.axioms.numbers.items l.axioms.numbers.items
    × AreBareAxioms reading.graph.now reading.kinds.now reading.roles.now (g.S.TreeStore.stands l.store) l.bare.numbers.items
    × HaveKnownKids (g.S.TreeStore.stands l.store) l.known l.axioms.kids
