use Rattle.std.proofs.Common.{arith, length, ◌≡◌}
use Rattle.man_resolve.specs.Expressions.{knows}
use Rattle.man_write.specs.Parts.{ids_in}
use Rattle.man_write.specs.Plans.{subject_seen}
use Rattle.man_write.proofs.PlanLaws.{four_ids, noted_by}
use Rattle.man_write.proofs.plan.noted.Goals as goal

pub returns-clause-plan : goal.returns-clause-plan
returns-clause-plan c =
    let ids = ids_in c.args.kids.now in
    let trees = c.args.arena.now.trees in
    let four : length ids ≡ 4 = omega (arith, c.len.ensures.len, c.if-len-ne4.false) in
    let are = four_ids ids c.at-2.result c.at-3.result c.at.result c.at-4.result four c.at-2.ensures c.at-3.ensures c.at.ensures c.at-4.ensures in
    noted_by (knows c.args.kinds.now) trees ids c.at-2.result c.at-3.result c.at.result c.at-4.result c.note_subject-heading.result.0 (subject_seen trees c.note_subject-heading.result.1) are c.note_subject-heading.ensures.subject c.note_subject-heading.ensures.heading
