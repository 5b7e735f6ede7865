use Rattle.std.proofs.Common.{ℕ, suc, ◌+◌, List, arith, sym, subst, ◌≡◌, ◌∙◌, Some, slice_get}
use Rattle.std.proofs.lemmas.Bool.{both_ways}
use Rattle.std.proofs.lemmas.Option.{same_Some}
use Rattle.rdf_roles.proofs.FirstLaws.{HoldsNowhereBelow, first_at, holds_for_none, nowhere_below_next}
use Rattle.rdf_roles.proofs.NodeLaws.{keys_are}
use Rattle.rdf_roles.specs.Tables.{blank_nodes}
use Rattle.rdf_scans.specs.Reach.{IsOrphanIn}
use Rattle.rdf_scans.proofs.Marking.{so_many}
use Rattle.rdf_scans.proofs.Orphaning.{no_orphan, orphan_here, reached_is_no_orphan}
use Rattle.rdf_scans.proofs.orphans.first_unreached.Goals as goal
use Rattle.rdf_scans.proofs.orphans.first_unreached.Goals.{else-is_part_of_axiom-via-then-is_part_of_axiom+else-not-has_mark, else-is_part_of_axiom-via-else-is_part_of_axiom}

pub returns-then-not-has_mark-clause-some : goal.returns-then-not-has_mark-clause-some
returns-then-not-has_mark-clause-some c =
    let reading = c.args.reading.now in
    let g = reading.graph.now in
    let number = c.loop-number.number in
    let label = c.in-Some.label.now in
    let table = c.requires.reading.table in
    let at = subst (λ (ls : List (List ℕ)). slice_get ls number ≡ Some label) (keys_are g reading.roles.now.nodes table.nodes) c.in-Some.ensures in
    first_at (IsOrphanIn reading) (blank_nodes g) number label c.loop-number.invariant at
    (orphan_here reading c.args.marks.now number label c.requires.marks at c.role.result (c.role.ensures g table) (c.is_part_of_axiom.ensures.0 c.if-is_part_of_axiom.true)
    (sym c.has_mark.ensures ∙ c.if-not-has_mark.true))

pub loop-number-preserved : goal.loop-number-preserved
loop-number-preserved c =
    let reading = c.args.reading.now in
    let g = reading.graph.now in
    let number = c.loop-number.number in
    let label = c.in-Some.label.now in
    let table = c.requires.reading.table in
    let at = subst (λ (ls : List (List ℕ)). slice_get ls number ≡ Some label) (keys_are g reading.roles.now.nodes table.nodes) c.in-Some.ensures in
    let here : IsOrphanIn reading label → ⊥ = elim c.else-is_part_of_axiom.branch [
      | else-is_part_of_axiom-via-then-is_part_of_axiom+else-not-has_mark w ↦
          reached_is_no_orphan reading c.args.marks.now number label c.requires.marks at (sym w.has_mark.ensures ∙ w.if-not-has_mark.false)
      | else-is_part_of_axiom-via-else-is_part_of_axiom w ↦
          no_orphan reading c.args.marks.now number label c.requires.marks at c.role.result (c.role.ensures g table)
          (λ part. both_ways c.is_part_of_axiom.result w.if-is_part_of_axiom.false (c.is_part_of_axiom.ensures.1 part))
    ] in
    let further : suc number ≡ number + 1 = omega arith in
    subst (HoldsNowhereBelow (IsOrphanIn reading) (blank_nodes g)) further
    (nowhere_below_next (IsOrphanIn reading) (blank_nodes g) number c.loop-number.invariant
    (λ x stands. subst (λ l. IsOrphanIn reading l → ⊥) (same_Some label x (sym at ∙ stands)) here))

pub returns-clause-none : goal.returns-clause-none
returns-clause-none c none =
    let reading = c.args.reading.now in
    let g = reading.graph.now in
    let size = so_many g reading.roles.now c.requires.reading.table in
    holds_for_none (IsOrphanIn reading) (blank_nodes g) c.loop-number.number
    (omega (arith, size, c.len-number-end.ensures, c.loop-number.auto.number-end, c.loop-number-test.false)) c.loop-number.invariant
