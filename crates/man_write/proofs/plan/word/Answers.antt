use Rattle.man_write.proofs.plan.word.Goals as goal

pub returns-then-len-ne2-clause-held : goal.returns-then-len-ne2-clause-held
returns-then-len-ne2-clause-held c = λ trees h. c.bare.ensures.held trees
