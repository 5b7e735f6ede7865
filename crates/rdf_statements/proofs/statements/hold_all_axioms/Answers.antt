use Rattle.tree_stores.proofs.KidLaws.{none_have_kids}
use Rattle.rdf_statements.specs.Holding.{IsKnownTree}
use Rattle.rdf_statements.proofs.Adding.{known_still}
use Rattle.rdf_statements.proofs.Stating.{both_stand_for}
use Rattle.rdf_statements.proofs.statements.hold_all_axioms.Goals as goal

pub add_triples-requires-clause-kids : goal.add_triples-requires-clause-kids
add_triples-requires-clause-kids g c = none_have_kids (IsKnownTree c.args.known.now) (g.S.TreeStore.stands c.args.store.now)

pub add_nodes-requires-clause-known : goal.add_nodes-requires-clause-known
add_nodes-requires-clause-known g c =
    let stands = g.S.TreeStore.stands in
    known_still (stands c.args.store.now) (stands c.add_triples.new.store) c.add_triples.ensures.kept c.args.known.now c.requires

pub returns-clause-held : goal.returns-clause-held
returns-clause-held g c =
    let stands = g.S.TreeStore.stands in
    let reading = c.args.known.now.annotated.reading in
    both_stand_for reading.graph.now reading.kinds.now reading.header.now (stands c.args.store.now) (stands c.add_triples.new.store) (stands c.add_nodes.new.store)
    c.new.result.items c.add_triples.new.axioms.numbers.items c.add_nodes.new.axioms.numbers.items c.new.ensures.items c.in_ok-add_triples.ensures.added c.in_ok-add_nodes.ensures.added
