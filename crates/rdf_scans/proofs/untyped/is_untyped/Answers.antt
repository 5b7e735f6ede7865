use Rattle.std.proofs.lemmas.Bool.{both_ways, cases_Bool}
use Rattle.std.proofs.Common.{inl, inr}
use Rattle.rdf_scans.proofs.Mistyped.{typed_so, untyped_axiom, untyped_note}
use Rattle.rdf_scans.proofs.untyped.is_untyped.Goals as goal

pub returns-then-is_no_axiom : goal.returns-then-is_no_axiom
returns-then-is_no_axiom c m =
    let reading = c.args.reading.now in
    let t = c.args.triple.now in
    (λ h. untyped_axiom reading t m (c.is_no_axiom.ensures.0 c.if-is_no_axiom.true), λ u. c.if-is_no_axiom.true)

pub returns-else-is_no_axiom : goal.returns-else-is_no_axiom
returns-else-is_no_axiom c m =
    let reading = c.args.reading.now in
    let t = c.args.triple.now in (
      λ h. untyped_note reading t m (c.is_no_note.ensures.0 h),
      λ u. elim (cases_Bool c.is_no_note.result) [
        | inl h ↦ h
        | inr n ↦
            absurd (typed_so reading t (λ a. both_ways c.is_no_axiom.result c.if-is_no_axiom.false (c.is_no_axiom.ensures.1 a))
            (λ b. both_ways c.is_no_note.result n (c.is_no_note.ensures.1 b)) u)
      ],
    )
