use Rattle.std.proofs.Common.{List, subst}
use Rattle.std.specs.Prelude.{Contains}
use Rattle.std.proofs.lemmas.Bool.{both_ways}
use Rattle.rdf_faults.specs.Firsts.{HoldsForNone, IsFirst}
use Rattle.rdf_graph.specs.declared.triple.Triple.{Triple}
use Rattle.rdf_scans.specs.Statements.{IsUntypedIn}
use Rattle.rdf_scans.proofs.Scans.{first_found, inside, none_found, none_yet}
use Rattle.rdf_scans.proofs.untyped.first_untyped_statement.Goals as goal

pub returns-then-is_untyped-clause-some : goal.returns-then-is_untyped-clause-some
returns-then-is_untyped-clause-some c =
    let reading = c.args.reading.now in
    let items = c.triples-triple-items in
    let t = c.triple-item.result in
    let among = subst (λ (ts : List Triple). Contains ts t) items.ensures.triples (inside (IsUntypedIn reading) items.result.now c.triples.triple-index t c.triples-test.true c.triple-item.is) in
    subst (λ (ts : List Triple). IsFirst (IsUntypedIn reading) ts t) items.ensures.triples
    (first_found (IsUntypedIn reading) items.result.now c.triples.triple-index t c.triples-test.true c.triple-item.is
    ((c.is_untyped.ensures among).0 c.if-is_untyped.true) c.triples.invariant)

pub triples-preserved : goal.triples-preserved
triples-preserved c =
    let reading = c.args.reading.now in
    let items = c.triples-triple-items in
    let t = c.triple-item.result in
    let among = subst (λ (ts : List Triple). Contains ts t) items.ensures.triples (inside (IsUntypedIn reading) items.result.now c.triples.triple-index t c.triples-test.true c.triple-item.is) in
    none_yet (IsUntypedIn reading) items.result.now c.triples.triple-index t c.triples-test.true c.triple-item.is
    (λ u. both_ways c.is_untyped.result c.if-is_untyped.false ((c.is_untyped.ensures among).1 u)) c.triples.invariant

pub returns-clause-none : goal.returns-clause-none
returns-clause-none c none =
    let reading = c.args.reading.now in
    let items = c.triples-triple-items in
    subst (HoldsForNone (IsUntypedIn reading)) items.ensures.triples
    (none_found (IsUntypedIn reading) items.result.now c.triples.triple-index c.triples-test.false c.triples.invariant)
