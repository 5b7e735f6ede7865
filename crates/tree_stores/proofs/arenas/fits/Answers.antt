use Rattle.tree_stores.proofs.ArenaLaws.{held_are_small}
use Rattle.tree_stores.proofs.arenas.fits.Goals as goal

pub returns : goal.returns
returns c = held_are_small c.args.arena.now.trees c.distinct.ensures.shared
