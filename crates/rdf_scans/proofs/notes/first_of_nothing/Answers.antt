use Rattle.std.proofs.Common.{List, subst}
use Rattle.rdf_faults.specs.Firsts.{HoldsForNone, IsFirst}
use Rattle.rdf_graph.specs.declared.triple.Triple.{Triple}
use Rattle.rdf_scans.specs.Notes.{IsOfNothingIn}
use Rattle.rdf_scans.proofs.FirstNodes.{first_node, no_node}
use Rattle.rdf_scans.proofs.NothingFound.{MarksNothing, found_at, is_marked}
use Rattle.rdf_scans.proofs.Scans.{first_found, none_found}
use Rattle.rdf_scans.proofs.notes.first_of_nothing.Goals as goal

pub returns-in-Some-clause-some : goal.returns-in-Some-clause-some
returns-in-Some-clause-some c =
    let reading = c.args.reading.now in
    let g = reading.graph.now in
    let items = c.triples-triple-items in
    let t = c.triple-item.result in
    let label = c.in-Some.node.now in
    let finds = c.in-Some.ensures in
    let first = subst (λ (ts : List Triple). IsFirst (MarksNothing reading) ts t) items.ensures.triples
    (first_found (MarksNothing reading) items.result.now c.triples.triple-index t c.triples-test.true c.triple-item.is (found_at reading t label finds) c.triples.invariant)
    in
    first_node g (MarksNothing reading) (IsOfNothingIn reading) (is_marked reading) items.ensures.graph.ascending t label finds.0 first finds.2

pub returns-clause-none : goal.returns-clause-none
returns-clause-none c none =
    let reading = c.args.reading.now in
    let items = c.triples-triple-items in
    no_node reading.graph.now (MarksNothing reading) (IsOfNothingIn reading) (is_marked reading)
    (subst (HoldsForNone (MarksNothing reading)) items.ensures.triples
    (none_found (MarksNothing reading) items.result.now c.triples.triple-index c.triples-test.false c.triples.invariant))
