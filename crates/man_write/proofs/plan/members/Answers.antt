use Rattle.man_write.proofs.plan.members.Goals as goal

pub returns-then-len-lt1-clause-held : goal.returns-then-len-lt1-clause-held
returns-then-len-lt1-clause-held c = λ trees h. c.bare.ensures.held trees
