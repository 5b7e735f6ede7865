use Rattle.rdf_normal.proofs.Extending.{made_here}
use Rattle.owl_declarations.proofs.declaring.add_leaf.Goals as goal

pub returns-in-Ok-clause-made : goal.returns-in-Ok-clause-made
returns-in-Ok-clause-made c = made_here c.args.arena.now.trees c.leaf.new.self.trees c.in-Ok.id _ c.in-Ok.ensures.added c.in-Ok.ensures.id
