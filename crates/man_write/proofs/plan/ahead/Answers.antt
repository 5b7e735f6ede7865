use Rattle.man_write.proofs.plan.ahead.Goals as goal

pub returns-then-len-ne3-clause-held : goal.returns-then-len-ne3-clause-held
returns-then-len-ne3-clause-held c = λ trees h. c.bare.ensures.held trees
