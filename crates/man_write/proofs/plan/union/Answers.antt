use Rattle.std.proofs.Common.{arith, length, ◌<◌, ◌∙◌}
use Rattle.man_text.specs.Blocks.{in_section}
use Rattle.man_write.specs.Parts.{ids_in}
use Rattle.man_write.proofs.PlanLaws.{not_union}
use Rattle.man_write.proofs.plan.union.Goals as goal

pub returns-then-len-lt2-clause-plan : goal.returns-then-len-lt2-clause-plan
returns-then-len-lt2-clause-plan c = λ trees t.
    let few : length (ids_in c.args.kids.now) < 2 = omega (arith, c.len.ensures.len, c.if-len-lt2.true) in
    c.members.ensures.plan trees t ∙ not_union trees (in_section c.args.heading c.args.section) t (ids_in c.args.kids.now) few
