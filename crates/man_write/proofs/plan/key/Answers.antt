use Rattle.std.proofs.Common.{arith, length, ◌≡◌}
use Rattle.man_text.specs.Blocks.{in_section}
use Rattle.man_write.specs.Parts.{ids_in}
use Rattle.man_write.proofs.ListedLaws.{held_below, held_both, held_there}
use Rattle.man_write.proofs.PlanLaws.{four_ids, key_by}
use Rattle.man_write.proofs.plan.key.Goals as goal

pub returns-clause-plan : goal.returns-clause-plan
returns-clause-plan c = λ t.
    let ids = ids_in c.args.kids.now in
    let four : length ids ≡ 4 = omega (arith, c.len.ensures.len, c.if-len-ne4.false) in
    let are = four_ids ids c.at-4.result c.at-3.result c.at.result c.at-2.result four c.at-4.ensures c.at-3.ensures c.at.ensures c.at-2.ensures in
    key_by c.args.arena.now.trees (in_section c.args.heading c.args.section) t ids c.at-4.result c.at-3.result c.at.result c.at-2.result (ids_in c.written.result) (ids_in c.written-2.result) are c.written.ensures.kids c.written-2.ensures.kids

pub returns-then-len-ne4-clause-held : goal.returns-then-len-ne4-clause-held
returns-then-len-ne4-clause-held c = c.bare.ensures.held c.args.arena.now.trees

pub returns-clause-held : goal.returns-clause-held
returns-clause-held c =
    let trees = c.args.arena.now.trees in
    let ids = ids_in c.args.kids.now in
    let first = held_below trees (ids_in c.written.result) c.at.result (held_there trees ids 2 c.at.result c.requires c.at.ensures) c.written.ensures.below in
    let others = held_below trees (ids_in c.written-2.result) c.at-2.result (held_there trees ids 3 c.at-2.result c.requires c.at-2.ensures) c.written-2.ensures.below in
    record {
      subject = held_there trees ids 1 c.at-3.result c.requires c.at-3.ensures;
      part = (held_there trees ids 0 c.at-4.result c.requires c.at-4.ensures, held_both trees (ids_in c.written.result) (ids_in c.written-2.result) first others);
    }
