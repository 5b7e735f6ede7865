use Rattle.std.proofs.Common.{ap, sym, ◌∙◌}
use Rattle.man_text.specs.Blocks.{in_section}
use Rattle.man_write.specs.declared.manner.Manner.{Manner}
use Rattle.man_write.specs.Parts.{forms_at, ids_in}
use Rattle.man_write.specs.Plans.{stated_as}
use Rattle.man_write.proofs.plan.in_manner.Goals as goal

pub returns-in-Beside-clause-plan : goal.returns-in-Beside-clause-plan
returns-in-Beside-clause-plan c =
    c.beside.ensures.plan c.args.arena.now.trees c.args.tag ∙ ap (λ (m : Manner). stated_as m (in_section c.args.heading c.args.section) c.args.tag (forms_at c.args.arena.now.trees (ids_in c.args.kids.now))) (sym c.in-Beside.is)

pub returns-in-Ahead-clause-plan : goal.returns-in-Ahead-clause-plan
returns-in-Ahead-clause-plan c =
    c.ahead.ensures.plan c.args.arena.now.trees c.args.tag ∙ ap (λ (m : Manner). stated_as m (in_section c.args.heading c.args.section) c.args.tag (forms_at c.args.arena.now.trees (ids_in c.args.kids.now))) (sym c.in-Ahead.is)

pub returns-in-Union-clause-plan : goal.returns-in-Union-clause-plan
returns-in-Union-clause-plan c =
    c.union.ensures.plan c.args.arena.now.trees c.args.tag ∙ ap (λ (m : Manner). stated_as m (in_section c.args.heading c.args.section) c.args.tag (forms_at c.args.arena.now.trees (ids_in c.args.kids.now))) (sym c.in-Union.is)

pub returns-in-Members-clause-plan : goal.returns-in-Members-clause-plan
returns-in-Members-clause-plan c =
    c.members.ensures.plan c.args.arena.now.trees c.args.tag ∙ ap (λ (m : Manner). stated_as m (in_section c.args.heading c.args.section) c.args.tag (forms_at c.args.arena.now.trees (ids_in c.args.kids.now))) (sym c.in-Members.is)

pub returns-in-Key-clause-plan : goal.returns-in-Key-clause-plan
returns-in-Key-clause-plan c =
    c.key.ensures.plan c.args.tag ∙ ap (λ (m : Manner). stated_as m (in_section c.args.heading c.args.section) c.args.tag (forms_at c.args.arena.now.trees (ids_in c.args.kids.now))) (sym c.in-Key.is)

pub returns-in-Beside-clause-held : goal.returns-in-Beside-clause-held
returns-in-Beside-clause-held c = c.beside.ensures.held c.args.arena.now.trees c.requires

pub returns-in-Ahead-clause-held : goal.returns-in-Ahead-clause-held
returns-in-Ahead-clause-held c = c.ahead.ensures.held c.args.arena.now.trees c.requires

pub returns-in-Union-clause-held : goal.returns-in-Union-clause-held
returns-in-Union-clause-held c = c.union.ensures.held c.args.arena.now.trees c.requires

pub returns-in-Members-clause-held : goal.returns-in-Members-clause-held
returns-in-Members-clause-held c = c.members.ensures.held c.args.arena.now.trees c.requires

pub returns-in-Fact-clause-held : goal.returns-in-Fact-clause-held
returns-in-Fact-clause-held c = c.fact.ensures.held c.args.arena.now.trees c.requires

pub returns-in-Word-clause-held : goal.returns-in-Word-clause-held
returns-in-Word-clause-held c = c.word.ensures.held c.args.arena.now.trees c.requires

pub returns-in-Bare-clause-held : goal.returns-in-Bare-clause-held
returns-in-Bare-clause-held c = c.bare.ensures.held c.args.arena.now.trees
