use Rattle.owl_arena.proofs.HeldLaws.{entry_at}
use Rattle.owl_doc.proofs.builder.weight_of.Goals as goal

pub returns-clause-shaped : goal.returns-clause-shaped
returns-clause-shaped c = (entry_at c.args.arena.now.trees c.args.id c.distinct-trees.ensures.shared c.requires).shaped
