use Rattle.owl_maker.proofs.maker.Maker.open.Goals as goal

pub invariant_of-self : goal.invariant_of-self
invariant_of-self c = record { kids = c.push_open.ensures.held c.self.inside.builder.arena.trees c.self.invariant.kids; item = c.self.invariant.item }
