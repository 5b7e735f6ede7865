use Rattle.std.specs.Prelude.{◌≡◌, IfSome}
use Rattle.std.proofs.Common.{inl, inr, subst, sym}
use Rattle.rdf_roles.specs.FaultPlaces.{IsFirstUntyped}
use Rattle.rdf_reverse.specs.declared.fault.ReverseFault.TheVariants.{Untyped}
use Rattle.rdf_reverse.specs.Reverse.{IsFoundBy, typing}
use Rattle.rdf_reverse.proofs.Finding.{part_at, part_found}
use Rattle.rdf_reverse.proofs.scans.check_types.Goals as goal

pub returns-in-Some-clause-fault : goal.returns-in-Some-clause-fault
returns-in-Some-clause-fault c =
    let g = c.args.reading.now.graph.now in
    let k = c.args.reading.now.kinds.now in
    let header = c.args.reading.now.header.now in
    let one = c.requires.one_header in
    let first = subst (λ o. IfSome o (IsFirstUntyped g k)) c.in-Some.is c.untyped_in.ensures.some in
    elim c.untyped_at.ensures [
      | inl memory ↦ inl memory
      | inr there ↦
          let is = subst (λ o. IfSome o (λ t. c.untyped_at.result ≡ Untyped t)) first.stands there in
          subst (IsFoundBy g k typing) (sym is) (part_found g k header one first.triple (part_at g k header one c.in-Some.place first))
    ]
