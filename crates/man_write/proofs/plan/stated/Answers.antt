use Rattle.std.proofs.Common.{ap, sym, ◌∙◌}
use Rattle.man_resolve.specs.Places.{sentence_of}
use Rattle.man_text.specs.Blocks.{Where, in_section, stated, where_of}
use Rattle.man_write.specs.declared.manner.Manner.{Manner}
use Rattle.man_write.specs.Parts.{forms_at, ids_in}
use Rattle.man_write.specs.Plans.{manner_of, stated_as}
use Rattle.man_write.proofs.PlanLaws.{in_manner}
use Rattle.man_write.proofs.plan.stated.Goals as goal

pub returns-clause-plan : goal.returns-clause-plan
returns-clause-plan c =
    let ts = forms_at c.args.arena.now.trees (ids_in c.args.kids.now) in
    let h = c.where_of-heading.result.0 in
    let s = c.where_of-heading.result.1 in
    c.in_manner.ensures.plan
    ∙ ap (λ (m : Manner). stated_as m (in_section h s) c.args.tag ts) (c.manner_of-manner.ensures ∙ ap manner_of c.sentence_of.ensures)
    ∙ sym (in_manner (in_section h s) (sentence_of h s) c.args.tag ts)
    ∙ ap (λ (w : Where). stated w (sentence_of w.heading w.section) c.args.tag ts) (c.where_of-heading.ensures ∙ ap (where_of c.args.tag) c.begins_with_chain.ensures)
