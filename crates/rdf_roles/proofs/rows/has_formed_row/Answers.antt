use Rattle.std.proofs.Common.{ap, refl, subst, sym}
use Rattle.std.specs.Prelude.{map}
use Rattle.std.proofs.lemmas.Bool.{both_ways}
use Rattle.rdf_meaning.specs.Rows.{row_seen}
use Rattle.rdf_faults.specs.Formed.{HasFormedRow}
use Rattle.rdf_roles.specs.Lengths.{IsFormedBy}
use Rattle.rdf_roles.proofs.ListLengths.{found_row, passed_row}
use Rattle.rdf_roles.proofs.rows.has_formed_row.Goals as goal

pub returns-then-is_row : goal.returns-then-is_row
returns-then-is_row c g x seen =
    let is = (c.is_row.ensures g x seen c.of-words.ensures).0 c.if-is_row.true in
    let here = subst (λ rows. HasFormedRow g rows x) (sym (ap (map row_seen) c.in-Some.ensures.cases.0)) (found_row g x (row_seen c.in-Some.row.now) (map row_seen c.in-Some.behind.now) is) in
    (λ h. (c.loop-row.invariant g x seen).0 here, λ h. refl)

pub loop-row-preserved : goal.loop-row-preserved
loop-row-preserved c g x seen =
    let none = λ (is : IsFormedBy g x (row_seen c.in-Some.row.now)). both_ways c.is_row.result c.if-is_row.false ((c.is_row.ensures g x seen c.of-words.ensures).1 is) in
    let passed = passed_row g x (row_seen c.in-Some.row.now) (map row_seen c.in-Some.behind.now) none in
    let same = ap (map row_seen) c.in-Some.ensures.cases.0 in (
      λ h. (c.loop-row.invariant g x seen).0 (subst (λ rows. HasFormedRow g rows x) (sym same) (passed.0 h)),
      λ h. passed.1 (subst (λ rows. HasFormedRow g rows x) same ((c.loop-row.invariant g x seen).1 h)),
    )
