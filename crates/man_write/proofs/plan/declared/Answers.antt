use Rattle.std.proofs.Common.{arith, length, ap, ◌≡◌, ◌∙◌}
use Rattle.man_text.specs.Blocks.{entity_heading}
use Rattle.man_write.specs.Parts.{ids_in}
use Rattle.man_write.proofs.PlanLaws.{declared_by}
use Rattle.man_write.proofs.plan.declared.Goals as goal

pub returns-clause-plan : goal.returns-clause-plan
returns-clause-plan c = λ k.
    let ids = ids_in c.args.kids.now in
    let two : length ids ≡ 2 = omega (arith, c.len.ensures.len, c.if-len-ne2.false) in
    declared_by k c.args.arena.now.trees ids c.at-entity.result c.entity_heading.result two c.at-entity.ensures (c.entity_heading.ensures ∙ ap entity_heading c.tag.ensures)
