use Rattle.std.specs.Prelude.{IfSome}
use Rattle.std.proofs.Common.{ap, refl, subst, sym}
use Rattle.std.specs.Option.{is_some}
use Rattle.rdf_roles.specs.Refusals.{IsFirstNode}
use Rattle.rdf_faults.specs.Faults.{IsOrphan}
use Rattle.rdf_reverse.specs.declared.fault.ReverseFault.TheVariants.{Orphan, Reserved}
use Rattle.rdf_reverse.specs.Reverse.{IsFoundBy, scanning}
use Rattle.rdf_reverse.proofs.Finding.{name_found, orphan_found, types_found}
use Rattle.rdf_reverse.proofs.scans.check_reading.Goals as goal

pub returns-in-Some-first_reserved-clause-fault : goal.returns-in-Some-first_reserved-clause-fault
returns-in-Some-first_reserved-clause-fault c =
    let g = c.args.reading.now.graph.now in
    let k = c.args.reading.now.kinds.now in
    subst (λ t. IsFoundBy g k scanning (Reserved t)) (sym c.in_ok-copy-2.ensures)
    (name_found g k c.args.reading.now.header.now c.requires.one_header (c.in_default.ensures.none refl) c.in-Some-first_reserved.triple.now c.in-Some-first_reserved.ensures.some)

pub returns-in-Some-2-clause-fault : goal.returns-in-Some-2-clause-fault
returns-in-Some-2-clause-fault c =
    let g = c.args.reading.now.graph.now in
    let k = c.args.reading.now.kinds.now in
    let header = c.args.reading.now.header.now in
    let first = subst (λ o. IfSome o (λ node. IsFirstNode g (IsOrphan g k header) node.now)) c.in-Some-2.is c.in_ok-node.ensures.some in
    subst (λ l. IsFoundBy g k scanning (Orphan l)) (sym c.in_ok-copy-3.ensures)
    (orphan_found g k header c.requires.one_header (c.in_default.ensures.none refl) (c.in_default-first_reserved.ensures.none refl) c.in-Some-2.node.now first)

pub returns-clause-fault : goal.returns-clause-fault
returns-clause-fault c =
    types_found c.args.reading.now.graph.now c.args.reading.now.kinds.now c.args.reading.now.header.now c.requires.one_header c.check_types.result
    (c.in_default.ensures.none refl) (c.in_default-first_reserved.ensures.none refl) (c.in_ok-node.ensures.none (ap is_some c.in_default-2.is)) c.check_types.ensures.fault
