use Rattle.std.proofs.Common.{List, sym, ◌∙◌, subst}
use Rattle.std.specs.Prelude.{Contains}
use Rattle.rdf_faults.specs.Firsts.{HoldsForNone, IsFirst}
use Rattle.rdf_graph.specs.declared.triple.Triple.{Triple}
use Rattle.rdf_scans.specs.Reserved.{IsReservedIn}
use Rattle.rdf_scans.proofs.Reserving.{not_reserved, reserved_so}
use Rattle.rdf_scans.proofs.Scans.{first_found, inside, none_found, none_yet}
use Rattle.rdf_scans.proofs.reserved.first_reserved.Goals as goal

pub returns-then-is_reserved-clause-some : goal.returns-then-is_reserved-clause-some
returns-then-is_reserved-clause-some c =
    let reading = c.args.reading.now in
    let items = c.triples-triple-items in
    let t = c.triple-item.result in
    let among = subst (λ (ts : List Triple). Contains ts t) items.ensures.triples (inside (IsReservedIn reading) items.result.now c.triples.triple-index t c.triples-test.true c.triple-item.is) in
    let so = reserved_so reading t among (sym c.is_reserved.ensures ∙ c.if-is_reserved.true) in
    subst (λ (ts : List Triple). IsFirst (IsReservedIn reading) ts t) items.ensures.triples
    (first_found (IsReservedIn reading) items.result.now c.triples.triple-index t c.triples-test.true c.triple-item.is so c.triples.invariant)

pub triples-preserved : goal.triples-preserved
triples-preserved c =
    let reading = c.args.reading.now in
    let t = c.triple-item.result in
    none_yet (IsReservedIn reading) c.triples-triple-items.result.now c.triples.triple-index t c.triples-test.true c.triple-item.is
    (not_reserved reading t (sym c.is_reserved.ensures ∙ c.if-is_reserved.false)) c.triples.invariant

pub returns-clause-none : goal.returns-clause-none
returns-clause-none c none =
    let reading = c.args.reading.now in
    let items = c.triples-triple-items in
    subst (HoldsForNone (IsReservedIn reading)) items.ensures.triples
    (none_found (IsReservedIn reading) items.result.now c.triples.triple-index c.triples-test.false c.triples.invariant)
