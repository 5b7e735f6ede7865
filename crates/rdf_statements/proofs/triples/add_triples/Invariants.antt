use Rattle.rdf_statements.specs.Holding.{HaveKnownKids}
use Rattle.rdf_statements.proofs.Adding.{TriplesUpTo}
use Rattle.rdf_statements.proofs.triples.add_triples.Given as goal

abbrev pub invariant-loop-place : goal.invariant-loop-place
invariant-loop-place g l =
    let reading = l.known.annotated.reading in
    TriplesUpTo (g.S.TreeStore.stands l.fn.store) reading.graph.now reading.kinds.now reading.header.now (g.S.TreeStore.stands l.store) l.place l.fn.axioms.numbers.items
    l.axioms.numbers.items × HaveKnownKids (g.S.TreeStore.stands l.store) l.known l.axioms.kids
