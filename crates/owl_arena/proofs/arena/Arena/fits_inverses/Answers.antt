use Rattle.owl_tree.proofs.ShapeTestLaws.{not_other, only_where}
use Rattle.owl_arena.proofs.arena.Arena.fits_inverses.Goals as goal

pub returns-else-ne : goal.returns-else-ne
returns-else-ne c = only_where _ _ _ (not_other _ _ _ c.ne.ensures c.if-ne.false) c.has_at_most_two.ensures
