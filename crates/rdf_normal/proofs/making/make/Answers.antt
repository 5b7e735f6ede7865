use Rattle.rdf_normal.proofs.Extending.{made_here}
use Rattle.rdf_normal.proofs.making.make.Goals as goal

pub returns-in-Ok-clause-made : goal.returns-in-Ok-clause-made
returns-in-Ok-clause-made c = made_here c.args.arena.now.trees c.node.new.self.trees c.in-Ok.id _ c.in-Ok.ensures.added c.in-Ok.ensures.id
