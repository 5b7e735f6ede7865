use Rattle.rdf_scans.proofs.Meeting.{IsAxiomAt, typed_at, typed_by_none}
use Rattle.rdf_scans.proofs.Scans.{none_found}
use Rattle.rdf_scans.proofs.statements.is_typed_axiom.Goals as goal
use Rattle.std.proofs.Common.{refl}

pub returns : goal.returns
returns c =
    let reading = c.args.reading.now in
    let t = c.args.triple.now in
    let rows = c.axiom_rows-row-items.result.now in
    (λ h. cc, λ is. absurd (typed_by_none reading t rows c.axiom_rows-row-items.ensures (none_found (IsAxiomAt reading t) rows c.rows.row-index c.rows-test.false c.rows.invariant) is))

pub returns-then-is_axiom_by : goal.returns-then-is_axiom_by
returns-then-is_axiom_by c =
    let reading = c.args.reading.now in
    let t = c.args.triple.now in
    let rows = c.axiom_rows-row-items.result.now in
    (λ h. typed_at reading t rows c.axiom_rows-row-items.ensures c.rows.row-index _ c.rows-test.true (c.is_axiom_by.ensures.0 c.if-is_axiom_by.true), λ is. refl)
