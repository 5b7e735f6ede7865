use Rattle.std.proofs.Common.{◌≡◌, [], arith, get_or, length}
use Rattle.rdf_graph.specs.declared.term.Term.TheVariants.{Iri}
use Rattle.rdf_graph.specs.declared.triple.Triple.{Triple}
use Rattle.rdf_statements.proofs.Adding.{all_triples, known_still, next_triple, no_triples, some_at}
use Rattle.rdf_statements.proofs.triples.add_triples.Goals as goal

pub add_triple-requires-clause-known : goal.add_triple-requires-clause-known
add_triple-requires-clause-known g c =
    let stands = g.S.TreeStore.stands in
    known_still (stands c.args.store.now) (stands c.loop-place.store) c.loop-place.invariant.0.kept c.args.known.now c.requires.known

pub loop-place-init : goal.loop-place-init
loop-place-init g c =
    let reading = c.args.known.now.annotated.reading in
    (no_triples (g.S.TreeStore.stands c.args.store.now) reading.graph.now reading.kinds.now reading.header.now c.args.axioms.now.numbers.items, c.requires.kids)

some_triple : Triple
some_triple = record { subject = Iri []; predicate = []; object = Iri [] }

pub loop-place-preserved : goal.loop-place-preserved
loop-place-preserved g c =
    let stands = g.S.TreeStore.stands in
    let reading = c.args.known.now.annotated.reading in
    let graph = reading.graph.now in
    let place = c.loop-place.place in
    let end = c.len-place-end.ensures.len in
    let at = some_at graph place some_triple (omega (arith, c.loop-place-test.true, end)) in (
      next_triple (stands c.args.store.now) graph reading.kinds.now reading.header.now (stands c.loop-place.store) (stands c.add_triple.new.store) place (get_or graph place some_triple)
          c.args.axioms.now.numbers.items c.loop-place.axioms.numbers.items c.add_triple.new.axioms.numbers.items at c.loop-place.invariant.0 c.add_triple.ensures.kept
          (c.in_ok-add_triple.ensures.added (get_or graph place some_triple) at),
      c.in_ok-add_triple.ensures.kids,
    )

pub returns-clause-added : goal.returns-clause-added
returns-clause-added g c =
    let stands = g.S.TreeStore.stands in
    let reading = c.args.known.now.annotated.reading in
    let graph = reading.graph.now in
    let end = c.len-place-end.ensures.len in
    let all : c.loop-place.place ≡ length graph = omega (arith, c.loop-place-test.false, c.loop-place.auto.place-end, end) in
    all_triples (stands c.args.store.now) graph reading.kinds.now reading.header.now (stands c.loop-place.store) c.loop-place.place c.args.axioms.now.numbers.items c.loop-place.axioms.numbers.items all
    c.loop-place.invariant.0
