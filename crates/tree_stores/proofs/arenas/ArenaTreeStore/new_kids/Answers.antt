use Rattle.tree_stores.proofs.Growing.{new_tree, standing_held}
use Rattle.tree_stores.proofs.arenas.ArenaTreeStore.new_kids.Goals as goal

pub kids-requires : goal.kids-requires
kids-requires c = (standing_held c.args.self.now.trees _ c.requires).0

pub returns : goal.returns
returns c = λ old size kept t at.
    new_tree c.args.self.now.trees old.trees c.distinct.ensures.shared c.args.before c.place.result size c.if-place-before.false c.place.ensures kept t at c.kids.result.now c.kids.ensures.kids
