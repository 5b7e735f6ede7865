use Rattle.man_write.proofs.plan.fact.Goals as goal

pub returns-then-len-ne4-clause-held : goal.returns-then-len-ne4-clause-held
returns-then-len-ne4-clause-held c = λ trees h. c.bare.ensures.held trees
